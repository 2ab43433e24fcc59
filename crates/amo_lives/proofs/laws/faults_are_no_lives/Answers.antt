use Rattle.amo_lives.proofs.Faults.{fault_no_file, one_fault}
use Rattle.amo_lives.proofs.laws.faults_are_no_lives.Goals as goal

pub returns-clause-none : goal.returns-clause-none
returns-clause-none c = fault_no_file

pub returns-clause-one : goal.returns-clause-one
returns-clause-one c = one_fault
