use Rattle.amo_world.proofs.Held.{sender_holds, receiver_holds}
use Rattle.amo_world.proofs.laws.few_acts_change_what_is_held.Goals as goal

pub returns-clause-sender : goal.returns-clause-sender
returns-clause-sender c = λ s a no. sender_holds s.sender.state a no

pub returns-clause-receiver : goal.returns-clause-receiver
returns-clause-receiver c = λ s a no. receiver_holds s.receiver.state a no
