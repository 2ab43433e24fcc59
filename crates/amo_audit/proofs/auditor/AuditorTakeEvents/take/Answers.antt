use Rattle.amo_audit.proofs.Found.{after_fault}
use Rattle.amo_audit.proofs.auditor.AuditorTakeEvents.take.Goals as goal

pub returns-in-AtFault : goal.returns-in-AtFault
returns-in-AtFault c = λ past long finds. after_fault c.args.self.now.world c.args.self.now.finding past c.args.event finds c.in-AtFault.field-0 c.in-AtFault.field-1 c.in-AtFault.is
