use Rattle.std.proofs.Common.{◌≢◌, ℕ, ◌<◌, ◌≤◌, get_or}
use Rattle.amo_disk.proofs.newest.part_within.Given as goal

-- no line ended from the first place on
abbrev pub invariant-loop-place : goal.invariant-loop-place
invariant-loop-place l = (k : ℕ) → l.first ≤ k → k < l.place → get_or l.bytes k 0 ≢ 10
