use Rattle.amo_outcomes.proofs.SenderAlone.{some_sender_outcome, no_other_of_sender, of_puts_of_sender}
use Rattle.amo_outcomes.proofs.laws.each_put_has_one_outcome_of_the_sender.Goals as goal

pub returns-clause-one : goal.returns-clause-one
returns-clause-one c = λ number events put less. some_sender_outcome number events put less

pub returns-clause-no_other : goal.returns-clause-no_other
returns-clause-no_other c = λ number events put one other. no_other_of_sender number events put one other

pub returns-clause-of_puts : goal.returns-clause-of_puts
returns-clause-of_puts c = λ number events put outcome. of_puts_of_sender number events put outcome
