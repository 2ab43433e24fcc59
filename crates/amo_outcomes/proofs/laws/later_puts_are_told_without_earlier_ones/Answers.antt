use Rattle.amo_outcomes.proofs.OpenPuts.{none_got, none_settled, open_stands}
use Rattle.amo_outcomes.proofs.StandsFor.{stands_on, tells_so, told_so}
use Rattle.amo_outcomes.proofs.laws.later_puts_are_told_without_earlier_ones.Goals as goal

pub returns-clause-on : goal.returns-clause-on
returns-clause-on c = λ number many newer part whole. stands_on number many newer part whole

pub returns-clause-told : goal.returns-clause-told
returns-clause-told c = λ number many part whole put outcome stands. (tells_so number many part whole stands put outcome, told_so number many part whole stands put outcome)

pub returns-clause-open : goal.returns-clause-open
returns-clause-open c = λ number part whole brings. open_stands number part whole brings.mode brings.messages brings.puts

pub returns-clause-unanswered : goal.returns-clause-unanswered
returns-clause-unanswered c = λ number part whole put brings. (none_got number part whole brings.mode brings.messages brings.puts put, none_settled number part whole brings.mode brings.messages brings.puts put)
