use Rattle.amo_world.proofs.Picks.{own, others, joined, picked_later}
use Rattle.amo_world.proofs.laws.events_of_a_pass.Goals as goal

pub returns-clause-own : goal.returns-clause-own
returns-clause-own c = own

pub returns-clause-others : goal.returns-clause-others
returns-clause-others c = others

pub returns-clause-joined : goal.returns-clause-joined
returns-clause-joined c = joined

pub returns-clause-further : goal.returns-clause-further
returns-clause-further c = picked_later
