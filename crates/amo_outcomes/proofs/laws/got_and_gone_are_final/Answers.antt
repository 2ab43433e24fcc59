use Rattle.amo_outcomes.proofs.Final.{got_is_final, gone_is_final}
use Rattle.amo_outcomes.proofs.laws.got_and_gone_are_final.Goals as goal

pub returns-clause-got : goal.returns-clause-got
returns-clause-got c = λ number later earlier put extends right honest fresh. got_is_final number later earlier extends right honest fresh put

pub returns-clause-gone : goal.returns-clause-gone
returns-clause-gone c = λ number later earlier put extends right honest fresh. gone_is_final number later earlier extends right honest fresh put

pub returns-clause-never_got : goal.returns-clause-never_got
returns-clause-never_got c =
    λ number later earlier put extends right honest fresh gone.
    (gone_is_final number later earlier extends right honest fresh put gone).1
