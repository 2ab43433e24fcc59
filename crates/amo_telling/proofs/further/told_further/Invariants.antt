use Rattle.std.proofs.Common.{List, map}
use Rattle.amo_world.specs.declared.event.Event.{Event}
use Rattle.amo_outcomes.specs.SenderFollowers.{HaveFollowedSenders}
use Rattle.amo_telling.specs.Told.{StreamsToldFurther}
use Rattle.amo_telling.proofs.further.told_further.Given as goal

-- the first streams are told
abbrev pub invariant-loop-place : goal.invariant-loop-place
invariant-loop-place l = (past : List Event) → HaveFollowedSenders l.own past
    → StreamsToldFurther past (map (λ told. told.items) l.all) l.place (map (λ told. told.items) l.listed.items)
