use Rattle.std.proofs.lemmas.Result.{IfOk-weaker}
use Rattle.amo_journal.proofs.Gaps.{event_taken, gap_found}
use Rattle.amo_journal.proofs.reading.Reading.take.Goals as goal

pub returns-in-None-clause-gathers : goal.returns-in-None-clause-gathers
returns-in-None-clause-gathers g c = IfOk-weaker c.take.result _ _ (λ _ takes lines gathers.
    event_taken g.T.TakeEvents.HasTaken c.args.self.now.taker c.args.self.now.lines c.args.self.now.gap lines c.args.line gathers c.take.new.self c.in-None.is c.if-line-number.true takes) c.take.ensures

pub returns-in-None-2-clause-gathers : goal.returns-in-None-2-clause-gathers
returns-in-None-2-clause-gathers g c = λ lines gathers.
    gap_found g.T.TakeEvents.HasTaken c.args.self.now.taker c.args.self.now.lines c.args.self.now.gap lines c.args.line gathers c.in-None.is c.if-line-number.false
