use Rattle.std.proofs.Common.{◌+◌, List, sym, subst, arith}
use Rattle.amo_outcomes.specs.declared.sender_outcome.SenderOutcome.{SenderOutcome}
use Rattle.amo_outcomes.proofs.SenderFollowing.{AreToldOfSender, one_told_more_of_sender, all_told_of_sender}
use Rattle.amo_outcomes.proofs.sender_follower.SenderFollower.outcomes.Goals as goal

pub loop-put-preserved : goal.loop-put-preserved
loop-put-preserved c =
    subst (λ (told : List SenderOutcome). AreToldOfSender c.args.self.now (c.loop-put.put + 1) told) (sym c.in_ok-push.ensures.items)
    (one_told_more_of_sender c.args.self.now c.loop-put.put c.loop-put.told.items c.outcome.result c.loop-put.invariant c.outcome.ensures)

pub returns : goal.returns
returns c =
    all_told_of_sender c.args.self.now c.loop-put.put c.loop-put.told.items c.loop-put.invariant
    (omega (arith, c.loop-put-test.false, c.loop-put.auto.put-end, c.count-count.ensures))
