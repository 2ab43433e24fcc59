use Rattle.std.proofs.Common.{◌+◌, List, sym, subst}
use Rattle.amo_outcomes.specs.declared.sender_follower.SenderFollower.{SenderFollower}
use Rattle.amo_outcomes.proofs.SenderFollowing.{NoSenderFollowed, one_sender_follower_more}
use Rattle.amo_outcomes.proofs.sender_telling.nothing_followed.Goals as goal

pub loop-place-preserved : goal.loop-place-preserved
loop-place-preserved c =
    subst (λ (followers : List SenderFollower). NoSenderFollowed followers (c.loop-place.place + 1)) (sym c.in_ok-push.ensures.items)
    (one_sender_follower_more c.loop-place.followers.items c.loop-place.place c.new.result c.loop-place.invariant c.new.ensures)
