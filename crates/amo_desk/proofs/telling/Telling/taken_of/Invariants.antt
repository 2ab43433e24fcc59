use Rattle.std.specs.Prelude.{◌≡◌}
use Rattle.amo_desk.proofs.telling.Telling.taken_of.Given as goal

-- nothing was written
abbrev pub invariant-waits : goal.invariant-waits
invariant-waits g l = l.self.desk.now.output ≡ l.fn.self.desk.now.output
