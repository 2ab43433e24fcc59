use Rattle.amo_object.proofs.Runs.{IsRunFrom-append, after_all-append}
use Rattle.amo_object.proofs.laws.joined_runs_are_runs.Goals as goal

pub returns-clause-run : goal.returns-clause-run
returns-clause-run c = IsRunFrom-append

pub returns-clause-state : goal.returns-clause-state
returns-clause-state c = after_all-append
