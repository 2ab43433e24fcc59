use Rattle.std.proofs.Common.{sym, ◌∙◌}
use Rattle.amo_journal.specs.declared.version.Version.TheVariants.{Two}
use Rattle.amo_journal.proofs.Unambiguous.{same_text}
use Rattle.amo_journal.proofs.Versions.{line_in_two}
use Rattle.amo_journal.proofs.lines.read_line.Goals as goal

pub returns-in_default : goal.returns-in_default
returns-in_default c = λ line known text. (rw c.in_default.is at c.in_ok-line.ensures) line (line_in_two c.args.version line known) text

pub returns-else-keeps_line : goal.returns-else-keeps_line
returns-else-keeps_line c = λ line known text.
    let here = rw c.in-Some.is at c.in_ok-line.ensures in
    let same = same_text Two _ line here.0 (line_in_two c.args.version line known) (sym here.1 ∙ text) in
    let told = c.if-keeps_line.ensures.1 (rw same known.1) in
    cc
