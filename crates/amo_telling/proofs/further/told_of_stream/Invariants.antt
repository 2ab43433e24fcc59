use Rattle.std.proofs.Common.{List}
use Rattle.amo_world.specs.declared.event.Event.{Event}
use Rattle.amo_outcomes.specs.SenderFollowers.{HaveFollowedSenders}
use Rattle.amo_telling.specs.Told.{AreToldFurther}
use Rattle.amo_telling.proofs.further.told_of_stream.Given as goal

-- the first puts are told
abbrev pub invariant-loop-put : goal.invariant-loop-put
invariant-loop-put l = (past : List Event) → HaveFollowedSenders l.own past → AreToldFurther past l.stream l.outcomes l.put l.told.items
