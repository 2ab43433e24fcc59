use Rattle.amo_door.proofs.Onward.{write_goes_on}
use Rattle.amo_door.proofs.Settled.{passes_over}
use Rattle.amo_door.proofs.connection.Connection.pass_over.Goals as goal

-- the answer was written
pub returns-clause-goes_on : goal.returns-clause-goes_on
returns-clause-goes_on c = write_goes_on c.write.result c.args.self.now c.write.new.self c.write.ensures.output c.write.ensures.counts c.write.ensures.ok c.write.ensures.err

pub returns-clause-passed : goal.returns-clause-passed
returns-clause-passed c = passes_over c.write.result c.args.self.now c.write.new.self c.in_ok-answer.answer c.write.ensures.spelt c.write.ensures.ok
