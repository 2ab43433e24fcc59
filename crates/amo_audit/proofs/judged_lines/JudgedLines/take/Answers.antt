use Rattle.std.proofs.lemmas.Result.{IfOk-weaker}
use Rattle.amo_journal.proofs.Gaps.{event_taken, gap_before, gap_found}
use Rattle.amo_audit.proofs.Parts.{Taken}
use Rattle.amo_audit.proofs.judged_lines.JudgedLines.take.Goals as goal

pub returns-in-Some-clause-gathers : goal.returns-in-Some-clause-gathers
returns-in-Some-clause-gathers c = λ lines gathers. gap_before Taken c.args.self.now.auditor c.args.self.now.lines c.args.self.now.gap lines c.args.line gathers c.in-Some.field-0 c.in-Some.is

pub returns-in-None-clause-gathers : goal.returns-in-None-clause-gathers
returns-in-None-clause-gathers c = IfOk-weaker c.take.result _ _ (λ _ takes lines gathers.
    event_taken Taken c.args.self.now.auditor c.args.self.now.lines c.args.self.now.gap lines c.args.line gathers c.take.new.self c.in-None.is c.if-line-number.true takes) c.take.ensures

pub returns-in-None-2-clause-gathers : goal.returns-in-None-2-clause-gathers
returns-in-None-2-clause-gathers c = λ lines gathers.
    gap_found Taken c.args.self.now.auditor c.args.self.now.lines c.args.self.now.gap lines c.args.line gathers c.in-None.is c.if-line-number.false
