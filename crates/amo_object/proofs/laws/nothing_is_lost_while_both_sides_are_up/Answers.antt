use Rattle.amo_object.proofs.Deliveries.{messages_put-crash_free}
use Rattle.amo_object.proofs.Runs.{without_losses-crash_free}
use Rattle.amo_object.proofs.laws.nothing_is_lost_while_both_sides_are_up.Goals as goal

pub returns-clause-no_loss : goal.returns-clause-no_loss
returns-clause-no_loss c = without_losses-crash_free

pub returns-clause-nothing_missing : goal.returns-clause-nothing_missing
returns-clause-nothing_missing c = messages_put-crash_free
