use Rattle.amo_arguments.proofs.Described.{with_argument}
use Rattle.amo_arguments.proofs.commands.run.Goals as goal

pub returns : goal.returns
returns c =
    let links = c.link.ensures.rule in
    let one = with_argument _ _ _ _ _ c.arg.ensures c.number.ensures.rule c.number.ensures.local c.with_texts.ensures in
    let two = with_argument _ _ _ _ _ c.arg-2.ensures c.number-2.ensures.rule c.number-2.ensures.local one in
    let three = with_argument _ _ _ _ _ c.arg-3.ensures c.number-3.ensures.rule c.number-3.ensures.local two in
    let four = c.text.ensures _ three in
    let five = with_argument _ _ _ _ _ c.arg-4.ensures links.2 c.link.ensures.local four in
    let six = c.text-2.ensures _ five in
    let seven = with_argument _ _ _ _ _ c.arg-5.ensures c.pumps.ensures.rule c.pumps.ensures.local six in
    let eight = c.flag.ensures _ seven in
    (links.0, links.1, c.flag-2.ensures _ eight)
