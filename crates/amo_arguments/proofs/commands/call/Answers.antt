use Rattle.amo_arguments.proofs.Described.{with_argument}
use Rattle.amo_arguments.proofs.commands.call.Goals as goal

pub returns : goal.returns
returns c =
    let one = with_argument _ _ _ _ _ c.arg.ensures c.needed.ensures.rule c.needed.ensures.local c.with_texts.ensures in
    let two = with_argument _ _ _ _ _ c.arg-2.ensures c.offered.ensures.rule c.offered.ensures.local one in
    let three = c.text.ensures _ two in
    let four = with_argument _ _ _ _ _ c.arg-3.ensures c.stream.ensures.rule c.stream.ensures.local three in
    let five = with_argument _ _ _ _ _ c.arg-4.ensures c.optional_text.ensures.rule c.optional_text.ensures.local four in
    let six = with_argument _ _ _ _ _ c.arg-5.ensures c.optional_text-2.ensures.rule c.optional_text-2.ensures.local five in
    let seven = c.optional_number.ensures _ six in
    let eight = c.optional_number-2.ensures _ seven in
    c.flag.ensures _ eight
