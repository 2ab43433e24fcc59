use Rattle.std.proofs.Common.{◌≡◌, ◌≤◌, length, take}
use Rattle.amo_object.specs.Run.{without_losses}
use Rattle.amo_audit.proofs.keeping.end_of.Given as goal

-- so many calls were seen
abbrev pub invariant-loop-place : goal.invariant-loop-place
invariant-loop-place l = (l.seen ≡ length (without_losses (take l.place l.steps))) × (l.seen ≤ l.many)
