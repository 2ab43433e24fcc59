use Rattle.std.proofs.Common.{◌+◌, List, sym, subst}
use Rattle.amo_outcomes.specs.declared.follower.Follower.{Follower}
use Rattle.amo_outcomes.proofs.Streams.{NothingFollowed, one_follower_more}
use Rattle.amo_outcomes.proofs.telling.nothing_followed.Goals as goal

pub loop-place-preserved : goal.loop-place-preserved
loop-place-preserved c =
    subst (λ (followers : List Follower). NothingFollowed followers (c.loop-place.place + 1)) (sym c.in_ok-push.ensures.items)
    (one_follower_more c.loop-place.followers.items c.loop-place.place c.new.result c.loop-place.invariant c.new.ensures)
