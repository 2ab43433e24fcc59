use Rattle.std.proofs.Common.{sym, ◌∙◌}
use Rattle.amo_journal.specs.declared.version.Version.TheVariants.{Two}
use Rattle.amo_journal.proofs.Unambiguous.{same_front}
use Rattle.amo_journal.proofs.Versions.{line_in_two}
use Rattle.amo_journal.proofs.lines.line_in_front.Goals as goal

pub returns-clause-none : goal.returns-clause-none
returns-clause-none c = λ line more known text.
    let here = rw c.in-Some.is at c.in_ok-line.ensures.some in
    let same = same_front Two _ line _ more here.0 (line_in_two c.args.lines.version line known) (sym here.1 ∙ text) in
    let told = c.if-keeps_line.ensures.1 (rw same known.1) in
    cc
