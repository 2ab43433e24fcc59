use Rattle.amo_outcomes.proofs.Interleavings.{same_in_each}
use Rattle.amo_outcomes.proofs.laws.outcomes_are_the_same_in_each_interleaving.Goals as goal

pub returns : goal.returns
returns c = λ number one other put outcome honest fresh honest_other fresh_other same.
    same_in_each number one other put outcome honest fresh honest_other fresh_other same
