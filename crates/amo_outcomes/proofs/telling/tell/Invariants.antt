use Rattle.std.proofs.Common.{List, map}
use Rattle.amo_world.specs.declared.event.Event.{Event}
use Rattle.amo_world.specs.History.{IsRight, IsHonest, IsFresh}
use Rattle.amo_outcomes.specs.Told.{AreFollowed, StreamsTold}
use Rattle.amo_outcomes.proofs.telling.tell.Given as goal

-- the first streams are told
abbrev pub invariant-loop-follower : goal.invariant-loop-follower
invariant-loop-follower l = (past : List Event) → IsRight past → IsHonest past → IsFresh past → AreFollowed l.followers past
    → StreamsTold past l.follower-index (map (λ told. told.items) l.all.items)
