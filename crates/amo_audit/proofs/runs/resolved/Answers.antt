use Rattle.std.proofs.Common.{subst}
use Rattle.amo_resolve.specs.Fault.{IsFault}
use Rattle.amo_audit.proofs.Explained.{fault_at}
use Rattle.amo_audit.proofs.runs.resolved.Goals as goal

pub returns-in-Err-WrongReply-clause-judged : goal.returns-in-Err-WrongReply-clause-judged
returns-in-Err-WrongReply-clause-judged c =
    (fault_at c.args.events.now _ _ (subst (IsFault c.args.events.now) c.in-Err-WrongReply.field-0-is c.in-Err-WrongReply.ensures.fault), λ e. cc)

pub returns-in-Err-Unsent-clause-judged : goal.returns-in-Err-Unsent-clause-judged
returns-in-Err-Unsent-clause-judged c =
    (fault_at c.args.events.now _ _ (subst (IsFault c.args.events.now) c.in-Err-Unsent.field-0-is c.in-Err-Unsent.ensures.fault), λ e. cc)

pub returns-in-Err-Repeat-clause-judged : goal.returns-in-Err-Repeat-clause-judged
returns-in-Err-Repeat-clause-judged c =
    (fault_at c.args.events.now _ _ (subst (IsFault c.args.events.now) c.in-Err-Repeat.field-0-is c.in-Err-Repeat.ensures.fault), λ e. cc)
