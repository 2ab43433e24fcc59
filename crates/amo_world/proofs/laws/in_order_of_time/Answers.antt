use Rattle.amo_world.proofs.Order.{reverse_take}
use Rattle.amo_world.proofs.laws.in_order_of_time.Goals as goal

pub returns-clause-first : goal.returns-clause-first
returns-clause-first c = λ events e place is. reverse_take events e place is
