use Rattle.amo_journal.proofs.Unambiguous.{malformed_no_journal, gap_no_journal, one_malformed_line, one_gap_line, malformed_no_gap}
use Rattle.amo_journal.proofs.laws.faults_are_no_journals.Goals as goal

pub returns-clause-malformed : goal.returns-clause-malformed
returns-clause-malformed c = malformed_no_journal

pub returns-clause-gap : goal.returns-clause-gap
returns-clause-gap c = gap_no_journal

pub returns-clause-one_malformed : goal.returns-clause-one_malformed
returns-clause-one_malformed c = one_malformed_line

pub returns-clause-one_gap : goal.returns-clause-one_gap
returns-clause-one_gap c = one_gap_line

pub returns-clause-not_both : goal.returns-clause-not_both
returns-clause-not_both c = malformed_no_gap
