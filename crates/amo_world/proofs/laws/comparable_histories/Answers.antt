use Rattle.amo_world.proofs.Extensions.{comparable, longer_extends, antisymmetric, same_length}
use Rattle.amo_world.proofs.laws.comparable_histories.Goals as goal

pub returns-clause-comparable : goal.returns-clause-comparable
returns-clause-comparable c = comparable

pub returns-clause-longer : goal.returns-clause-longer
returns-clause-longer c = longer_extends

pub returns-clause-antisymmetric : goal.returns-clause-antisymmetric
returns-clause-antisymmetric c = antisymmetric

pub returns-clause-same_length : goal.returns-clause-same_length
returns-clause-same_length c = same_length
