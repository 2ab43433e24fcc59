use Rattle.amo_journal.specs.declared.version.Version.TheVariants.{Two}
use Rattle.amo_journal.proofs.Fields.{IsLine-fields_of}
use Rattle.amo_journal.proofs.line_reader.NumberedLineItem.fields_are_a_line.Goals as goal

pub returns : goal.returns
returns c = IsLine-fields_of Two
