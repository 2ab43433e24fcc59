use Rattle.std.proofs.Common.{◌≡◌, [], rules, subst, sym}
use Rattle.std.specs.Io.KnownBytes.{Consumes}
use Rattle.amo_desk.proofs.Conserving.{waits_none}
use Rattle.amo_desk.proofs.Readers.{none_taken}
use Rattle.amo_desk.proofs.turns.Desk.ask.Goals as goal
use Rattle.amo_desk.proofs.turns.Desk.ask.Goals.{then-ready-2+in_ok-hear, else-ready-2}

pub returns-else-ready-3-clause-waits : goal.returns-else-ready-3-clause-waits
returns-else-ready-3-clause-waits g c =
    let reader : c.if-ready-2.self.reader ≡ c.args.self.now.reader = elim c.if-ready-2.branch [ then-ready-2+in_ok-hear w ↦ search rules | else-ready-2 w ↦ search rules ] in
    let input : c.if-ready-2.self.input ≡ c.args.self.now.input = elim c.if-ready-2.branch [ then-ready-2+in_ok-hear w ↦ search rules | else-ready-2 w ↦ search rules ] in (
      [],
      subst (λ r. Consumes (g.I.Read.remaining c.args.self.now.reader) (g.I.Read.remaining r) []) (sym reader) (none_taken (g.I.Read.remaining c.args.self.now.reader)),
      waits_none c.args.self.now.input c.if-ready-2.self.input input,
    )
