use Rattle.std.proofs.Common.{take, subst, arith}
use Rattle.std.proofs.lemmas.List.{take_all}
use Rattle.amo_audit.specs.Marks.{Marks, MarksAll}
use Rattle.amo_audit.proofs.Places.{one_more}
use Rattle.amo_audit.proofs.marking.SideSet.of.Goals as goal

pub loop-event-preserved : goal.loop-event-preserved
loop-event-preserved c =
    let before = take c.loop-event.event-index c.args.events.now in
    subst (MarksAll c.add.new.self.has) (one_more c.args.events.now c.loop-event.event-index c.event-item.result (omega arith) c.event-item.is) (c.add.ensures before c.loop-event.invariant)

pub returns : goal.returns
returns c = subst (Marks c.loop-event.sides.has) (take_all c.loop-event.event-index c.args.events.now (omega arith)) c.loop-event.invariant.1
