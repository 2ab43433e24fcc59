use Rattle.amo_audit.proofs.Explained.{none_judged}
use Rattle.amo_audit.proofs.Found.{events_judged}
use Rattle.amo_audit.proofs.auditing.audit_lines.Goals as goal

pub returns-in-Ok-take_told : goal.returns-in-Ok-take_told
returns-in-Ok-take_told c =
    let (events, told, finds) = c.in-Ok-take_told.ensures.taken in
    events_judged c.args.lines events c.verdict.result told (c.verdict.ensures events finds)

pub returns-in-Err : goal.returns-in-Err
returns-in-Err c = none_judged c.args.lines c.in-Err.verdict c.in-Err.ensures.found
