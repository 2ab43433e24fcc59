use Rattle.amo_object.specs.Queue.{start}
use Rattle.amo_object.proofs.Deliveries.{IsSubsequence-messages_got, messages_put-without_losses, messages_got-without_losses}
use Rattle.amo_object.proofs.laws.messages_are_got_in_order_and_at_most_once.Goals as goal

pub returns-clause-run : goal.returns-clause-run
returns-clause-run c = IsSubsequence-messages_got start

pub returns-clause-seen : goal.returns-clause-seen
returns-clause-seen c = λ run allowed. rw (messages_got-without_losses run, messages_put-without_losses run) (IsSubsequence-messages_got start run allowed)
