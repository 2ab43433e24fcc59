use Rattle.amo_journal.proofs.Unambiguous.{one_journal, one_text, one_version}
use Rattle.std.proofs.Common.{◌++◌}
use Rattle.amo_journal.specs.Version.{heading}
use Rattle.amo_journal.proofs.Written.{text_from, journal_of}
use Rattle.amo_journal.proofs.laws.journals_are_unambiguous.Goals as goal

pub returns-clause-events : goal.returns-clause-events
returns-clause-events c = one_journal

pub returns-clause-bytes : goal.returns-clause-bytes
returns-clause-bytes c = one_text

pub returns-clause-exists : goal.returns-clause-exists
returns-clause-exists c = λ version events few known. (heading version ++ text_from 0 events, journal_of version events few known)

pub returns-clause-version : goal.returns-clause-version
returns-clause-version c = one_version
