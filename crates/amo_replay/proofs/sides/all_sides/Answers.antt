use Rattle.std.proofs.Common.{arith}
use Rattle.amo_replay.proofs.Places.{one_more_side}
use Rattle.amo_replay.proofs.sides.all_sides.Goals as goal

pub loop-place-preserved : goal.loop-place-preserved
loop-place-preserved c = rw c.in_ok-push.ensures.items (one_more_side _ _ c.side_at.result c.loop-place.invariant c.side_at.ensures)

pub returns : goal.returns
returns c = record {
  count = (let count = c.loop-place.invariant.count in let least = c.loop-place-test.false in let most = c.loop-place.auto.place-end in omega arith);
  each = c.loop-place.invariant.each;
}
