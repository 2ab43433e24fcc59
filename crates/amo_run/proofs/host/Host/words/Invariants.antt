use Rattle.std.specs.Prelude.{◌≡◌, length}
use Rattle.amo_run.proofs.host.Host.words.Given as goal

-- so far there are the words of these pumps
abbrev pub invariant-pumps : goal.invariant-pumps
invariant-pumps l = length l.words.items ≡ l.pump
