use Rattle.amo_object.proofs.Runs.{without_losses-append}
use Rattle.amo_object.proofs.laws.losses_are_left_out_part_by_part.Goals as goal

pub returns : goal.returns
returns c = without_losses-append
