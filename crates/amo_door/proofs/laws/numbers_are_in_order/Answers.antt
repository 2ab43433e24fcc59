use Rattle.amo_door.specs.Turns.{all_made}
use Rattle.amo_door.proofs.Order.{numbered, once}
use Rattle.amo_door.proofs.laws.numbers_are_in_order.Goals as goal

pub returns-clause-order : goal.returns-clause-order
returns-clause-order c = λ life turns stream right. numbered life stream turns right

pub returns-clause-once : goal.returns-clause-once
returns-clause-once c = λ life turns stream number right. once (all_made stream turns) number (numbered life stream turns right)
