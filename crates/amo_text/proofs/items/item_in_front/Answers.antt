use Rattle.amo_text.proofs.Lines.{no_line}
use Rattle.amo_text.proofs.Readings.{unread}
use Rattle.amo_text.proofs.items.item_in_front.Goals as goal

pub returns-in_default-clause-none : goal.returns-in_default-clause-none
returns-in_default-clause-none g c = λ item more known. no_line c.args.bytes.now (g.I.LineItem.fields_of item) more c.in_default.ensures.none

pub returns-in-None-clause-none : goal.returns-in-None-clause-none
returns-in-None-clause-none g c =
    let cut = c.in-Some.ensures.found in
    (unread g.I.LineItem.fields_of g.I.LineItem.InRange c.fields_are_a_line.ensures c.args.bytes.now c.in-Some.text.now c.in-Some.more.now cut.0 cut.1
    (rw c.in-None.is at c.in_ok-item.ensures)).1
