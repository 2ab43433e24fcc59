use Rattle.std.proofs.Common.{◌≡◌, ◌++◌, drop, false}
use Rattle.amo_resolve.specs.Plan.{downs}
use Rattle.amo_resolve.proofs.plan.mark_down.Given as goal

-- those of the calls so far, and of the rest
abbrev pub invariant-loop-call : goal.invariant-loop-call
invariant-loop-call l = l.marks.items ++ downs l.sender_down l.receiver_down (drop l.call-index l.calls) ≡ downs false false l.calls
