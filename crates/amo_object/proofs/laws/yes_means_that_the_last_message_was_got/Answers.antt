use Rattle.amo_object.specs.Queue.{start}
use Rattle.amo_object.proofs.Acknowledgements.{messages_got-acknowledged}
use Rattle.amo_object.proofs.laws.yes_means_that_the_last_message_was_got.Goals as goal

pub returns : goal.returns
returns c = λ run before later m. messages_got-acknowledged start run before m later
