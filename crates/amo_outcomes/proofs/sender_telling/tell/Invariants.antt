use Rattle.std.proofs.Common.{List, map}
use Rattle.amo_world.specs.declared.event.Event.{Event}
use Rattle.amo_outcomes.specs.SenderOutcome.{SendersTold}
use Rattle.amo_outcomes.specs.SenderFollower.{SendersFollowed}
use Rattle.amo_outcomes.proofs.sender_telling.tell.Given as goal

-- the first streams are told
abbrev pub invariant-loop-follower : goal.invariant-loop-follower
invariant-loop-follower l = (past : List Event) → SendersFollowed l.followers past
    → SendersTold past l.follower-index (map (λ told. told.items) l.all.items)
