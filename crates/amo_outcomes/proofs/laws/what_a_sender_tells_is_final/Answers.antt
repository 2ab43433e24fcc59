use Rattle.amo_outcomes.proofs.SenderAlone.{got_of_sender, gone_of_sender, settled_for_good, open_of_sender}
use Rattle.amo_outcomes.proofs.laws.what_a_sender_tells_is_final.Goals as goal

pub returns-clause-got : goal.returns-clause-got
returns-clause-got c = λ number journal whole put on right honest fresh. got_of_sender number journal whole put on right honest fresh

pub returns-clause-gone : goal.returns-clause-gone
returns-clause-gone c = λ number journal whole put on right honest fresh. gone_of_sender number journal whole put on right honest fresh

pub returns-clause-settled : goal.returns-clause-settled
returns-clause-settled c = λ number journal whole put on right honest fresh. settled_for_good number journal whole put on right honest fresh

pub returns-clause-open : goal.returns-clause-open
returns-clause-open c = λ number journal whole put same. open_of_sender number journal whole put same
