use Rattle.amo_journal.specs.Journal.{event_fields}
use Rattle.amo_text.specs.Line.{text_of}
use Rattle.amo_journal.proofs.InFront.{one_number}
use Rattle.amo_journal.proofs.line_reader.NumberedLineItem.read.Goals as goal

pub returns-in_default-2 : goal.returns-in_default-2
returns-in_default-2 c = λ line known same.
    let first = c.in-Some.ensures.found in
    (rw c.in_default-2.is at c.in_ok-event.ensures) line.event known.1 (one_number c.args.text.now _ (text_of (event_fields line.event)) _ line.number first.0 known.0 first.1 same).1
