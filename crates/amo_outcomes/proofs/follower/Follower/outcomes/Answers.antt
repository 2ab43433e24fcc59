use Rattle.std.proofs.Common.{◌+◌, List, sym, subst, arith}
use Rattle.amo_outcomes.specs.declared.outcome.Outcome.{Outcome}
use Rattle.amo_outcomes.proofs.Streams.{AreTold, one_told_more, all_told}
use Rattle.amo_outcomes.proofs.follower.Follower.outcomes.Goals as goal

pub loop-put-preserved : goal.loop-put-preserved
loop-put-preserved c =
    subst (λ (told : List Outcome). AreTold c.args.self.now (c.loop-put.put + 1) told) (sym c.in_ok-push.ensures.items)
    (one_told_more c.args.self.now c.loop-put.put c.loop-put.told.items c.outcome.result c.loop-put.invariant c.outcome.ensures)

pub returns : goal.returns
returns c =
    all_told c.args.self.now c.loop-put.put c.loop-put.told.items c.loop-put.invariant
    (omega (arith, c.loop-put-test.false, c.loop-put.auto.put-end, c.count-count.ensures))
