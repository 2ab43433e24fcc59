use Rattle.std.proofs.Common.{◌≡◌, take}
use Rattle.amo_object.specs.Run.{without_losses}
use Rattle.amo_audit.proofs.keeping.calls_of.Given as goal

-- the calls of the steps so far
abbrev pub invariant-loop-place : goal.invariant-loop-place
invariant-loop-place l = l.calls.items ≡ without_losses (take l.place l.steps)
