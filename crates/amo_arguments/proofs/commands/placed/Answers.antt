use Rattle.amo_arguments.proofs.Described.{with_argument}
use Rattle.amo_arguments.proofs.commands.placed.Goals as goal

pub returns : goal.returns
returns c =
    let one = c.text.ensures _ c.with_texts.ensures in
    let two = c.text-2.ensures _ one in
    let three = with_argument _ _ _ _ _ c.arg.ensures c.number.ensures.rule c.number.ensures.local two in
    c.text-3.ensures _ three
