use Rattle.std.specs.Prelude.{◌≤◌, length}
use Rattle.amo_disk.proofs.opening.zeros_behind.Given as goal

-- what is left is no longer than all
abbrev pub invariant-zeros : goal.invariant-zeros
invariant-zeros l = length l.rest ≤ length l.bytes

abbrev pub decreases-zeros : goal.decreases-zeros
decreases-zeros l = length l.rest
