use Rattle.amo_outcomes.proofs.Final.{some_outcome, no_other, of_puts}
use Rattle.amo_outcomes.proofs.laws.each_put_has_one_outcome.Goals as goal

pub returns-clause-one : goal.returns-clause-one
returns-clause-one c = λ number events put right honest fresh less. some_outcome number events right honest fresh put less

pub returns-clause-no_other : goal.returns-clause-no_other
returns-clause-no_other c = λ number events put one other right honest fresh. no_other number events right honest fresh put one other

pub returns-clause-of_puts : goal.returns-clause-of_puts
returns-clause-of_puts c = λ number events put outcome right honest fresh. of_puts number events right honest fresh put outcome
