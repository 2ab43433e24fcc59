use Rattle.std.proofs.Common.{take}
use Rattle.amo_audit.specs.Marks.{MarksAll}
use Rattle.amo_audit.proofs.marking.SideSet.of.Given as goal

-- the sides of the events before this one are in it
abbrev pub invariant-loop-event : goal.invariant-loop-event
invariant-loop-event l = MarksAll l.sides.has (take l.event-index l.events)
