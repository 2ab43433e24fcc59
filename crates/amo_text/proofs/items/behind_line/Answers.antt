use Rattle.amo_text.proofs.Readings.{unread}
use Rattle.amo_text.proofs.items.behind_line.Goals as goal

pub returns-else-is_line-clause-none : goal.returns-else-is_line-clause-none
returns-else-is_line-clause-none g c =
    let cut = c.in_ok-text.ensures.found in
    (unread g.I.LineItem.fields_of g.I.LineItem.InRange c.fields_are_a_line.ensures c.args.bytes.now c.in_ok-text.text.now c.in_ok-text.more.now cut.0 cut.1
    (λ item known e. let is = c.is_line.ensures.1 (item, known, e) in cc (is, c.if-is_line.false))).1
