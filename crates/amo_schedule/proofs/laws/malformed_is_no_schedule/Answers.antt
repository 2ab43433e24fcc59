use Rattle.amo_schedule.proofs.Reading.{malformed_not_spelt, one_malformed}
use Rattle.amo_schedule.proofs.laws.malformed_is_no_schedule.Goals as goal

pub returns : goal.returns
returns c = record { none = malformed_not_spelt; one = one_malformed }
