use Rattle.amo_outcomes.proofs.Resuming.{resumed_right, resumed_told}
use Rattle.amo_outcomes.proofs.laws.a_list_of_open_puts_tells_what_all_events_do.Goals as goal

pub returns-clause-told : goal.returns-clause-told
returns-clause-told c = λ number newer listed all put outcome goes_on has. resumed_told number newer listed all goes_on put outcome has

pub returns-clause-right : goal.returns-clause-right
returns-clause-right c = λ number newer listed all goes_on right right_part. resumed_right number newer listed all goes_on right right_part
