use Rattle.std.proofs.Common.{◌≡◌, ◌++◌, List}
use Rattle.amo_object.specs.declared.step.Step.{Step}
use Rattle.amo_audit.proofs.keeping.push_gets.Given as goal

-- some gets were appended
abbrev pub invariant-loop-place : goal.invariant-loop-place
invariant-loop-place l = (gets : List Step) × (l.calls.items ≡ l.fn.calls.items ++ gets)
