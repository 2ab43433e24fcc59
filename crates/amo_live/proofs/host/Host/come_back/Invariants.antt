use Rattle.std.specs.Prelude.{◌≡◌, take}
use Rattle.amo_book.specs.Pass.{mine}
use Rattle.amo_live.specs.Host.{IsNoted, Stays, comes_back}
use Rattle.amo_live.proofs.host.Host.come_back.Given as goal

-- so far the sides before this place came back, and the journal has all lines
abbrev pub invariant-streams : goal.invariant-streams
invariant-streams g l = IsNoted g.S.Sink.written l.self × Stays l.fn.self l.self × (mine l.self.pass ≡ comes_back l.fn.self.pass.number (take l.place l.fn.self.book.sides) (mine l.fn.self.pass))
