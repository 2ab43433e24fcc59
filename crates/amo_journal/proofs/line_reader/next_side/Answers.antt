use Rattle.amo_text.specs.Side.{letter_of}
use Rattle.amo_text.proofs.Fields.{IsField-letter_of}
use Rattle.amo_journal.proofs.InFront.{one_field}
use Rattle.amo_journal.proofs.line_reader.next_side.Goals as goal

pub returns-in_err-read_side-clause-none : goal.returns-in_err-read_side-clause-none
returns-in_err-read_side-clause-none c =
    let cut = c.in_ok-field.ensures.found in
    rw c.from_residual-in_err-read_side.ensures (λ side rest e.
    c.in_err-read_side.ensures.none side (one_field c.args.text.now _ _ (letter_of side) rest cut.0 cut.1 (IsField-letter_of side) e).0)
