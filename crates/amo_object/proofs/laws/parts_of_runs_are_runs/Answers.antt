use Rattle.amo_object.proofs.Runs.{IsRunFrom-split}
use Rattle.amo_object.proofs.laws.parts_of_runs_are_runs.Goals as goal

pub returns-clause-beginning : goal.returns-clause-beginning
returns-clause-beginning c = λ s first more run. (IsRunFrom-split s first more run).0

pub returns-clause-rest : goal.returns-clause-rest
returns-clause-rest c = λ s first more run. (IsRunFrom-split s first more run).1
