use Rattle.std.specs.Prelude.{◌≡◌, length}
use Rattle.amo_run.proofs.whole_run.channels.Given as goal

-- so far there are these channels
abbrev pub invariant-pumps : goal.invariant-pumps
invariant-pumps l = length l.channels.items ≡ l.pump
