use Rattle.amo_journal.specs.declared.version.Version.TheVariants.{One}
use Rattle.amo_journal.proofs.Versions.{in_two}
use Rattle.amo_journal.proofs.laws.version_2_has_all_lines.Goals as goal

pub returns : goal.returns
returns c = in_two One
