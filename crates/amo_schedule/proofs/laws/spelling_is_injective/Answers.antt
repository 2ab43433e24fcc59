use Rattle.amo_schedule.proofs.Reading.{spelling_of-injective}
use Rattle.amo_schedule.proofs.laws.spelling_is_injective.Goals as goal

pub returns : goal.returns
returns c = spelling_of-injective
