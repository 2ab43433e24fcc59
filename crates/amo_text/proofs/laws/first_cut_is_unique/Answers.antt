use Rattle.amo_text.proofs.Cuts.{one_cut, no_cut}
use Rattle.amo_text.proofs.laws.first_cut_is_unique.Goals as goal

pub returns-clause-one : goal.returns-clause-one
returns-clause-one c = one_cut

pub returns-clause-none : goal.returns-clause-none
returns-clause-none c = no_cut
