use Rattle.std.proofs.Common.{◌≡◌, rules}
use Rattle.amo_audit.specs.declared.auditor.Finding.TheVariants.{Nothing}
use Rattle.amo_audit.proofs.Lone.{behind_fault, one_refused}
use Rattle.amo_audit.proofs.lone_auditor.LoneAuditor.judge.Goals as goal

pub returns-in-AtFault : goal.returns-in-AtFault
returns-in-AtFault c = λ past long finds. behind_fault _ _ past finds c.args.event.now c.in-AtFault.field-0 c.in-AtFault.field-1 c.in-AtFault.is

pub returns-in-Err : goal.returns-in-Err
returns-in-Err c = λ past long finds.
    let nothing : c.args.self.now.finding ≡ Nothing = first_of (search rules, cc) in
    one_refused _ _ past finds c.take.new.streams.items c.args.event.now c.args.before c.in-Err.fault nothing long c.in-Err.ensures.refused
