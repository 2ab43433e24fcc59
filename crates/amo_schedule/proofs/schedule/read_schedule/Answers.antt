use Rattle.amo_schedule.proofs.Reading.{one_schedule}
use Rattle.amo_schedule.proofs.schedule.read_schedule.Goals as goal

pub returns-clause-only : goal.returns-clause-only
returns-clause-only c = λ others spelt. one_schedule c.args.bytes.now others _ spelt c.in_ok-read_items.ensures.spelt
