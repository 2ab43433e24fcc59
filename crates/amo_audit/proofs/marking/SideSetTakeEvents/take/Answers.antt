use Rattle.amo_audit.proofs.marking.SideSetTakeEvents.take.Goals as goal

pub returns : goal.returns
returns c = λ past counted marks. c.add.ensures past marks
