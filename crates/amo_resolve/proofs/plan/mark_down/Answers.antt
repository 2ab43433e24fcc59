use Rattle.std.proofs.Common.{◌≡◌, ◌||◌, ◌+◌, false, drop, length, ap, ◌∙◌, ◌++◌, List, Bool, arith}
use Rattle.amo_resolve.specs.Plan.{downs}
use Rattle.amo_resolve.proofs.Lists.{either_first, either_second, downs_more, downs_all, length-downs}
use Rattle.amo_resolve.proofs.plan.mark_down.Goals as goal
use Rattle.amo_resolve.proofs.plan.mark_down.Goals.{then-sender_down, else-sender_down}

pub loop-call-preserved : goal.loop-call-preserved
loop-call-preserved c =
    let s = c.sender_after-sender_down.result in
    let r = c.receiver_after-receiver_down.result in
    let down : c.if-sender_down.push ≡ (s || r) = elim c.if-sender_down.branch [
      | then-sender_down w ↦ either_first s r c.if-sender_down.push w.if-sender_down.true (w.push-is ∙ w.if-sender_down.true)
      | else-sender_down w ↦ either_second s r c.if-sender_down.push w.if-sender_down.false w.push-is
    ] in
    ap (λ (them : List Bool). them ++ downs s r (drop (c.loop-call.call-index + 1) c.args.calls.now)) c.in_ok-push.ensures.items
    ∙ downs_more c.args.calls.now c.loop-call.call-index c.call-item.result c.loop-call.sender_down c.loop-call.receiver_down s r c.if-sender_down.push c.loop-call.marks.items (downs false false c.args.calls.now)
    (omega arith) c.call-item.is c.sender_after-sender_down.ensures c.receiver_after-receiver_down.ensures down c.loop-call.invariant

pub returns : goal.returns
returns c =
    let all = downs_all c.args.calls.now c.loop-call.call-index c.loop-call.sender_down c.loop-call.receiver_down c.loop-call.marks.items (downs false false c.args.calls.now)
    (omega (arith, c.loop-call-test.false)) c.loop-call.invariant in
    record { downs = all; count = ap length all ∙ length-downs false false c.args.calls.now }
