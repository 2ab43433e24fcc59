use Rattle.amo_arguments.proofs.Described.{with_argument}
use Rattle.amo_arguments.proofs.commands.serve.Goals as goal

pub returns : goal.returns
returns c =
    let one = c.text.ensures _ c.placed.ensures in
    let two = c.text-2.ensures _ one in
    let three = with_argument _ _ _ _ _ c.arg-asked.ensures c.optional_text.ensures.rule c.optional_text.ensures.local two in
    let four = c.timed.ensures _ three in
    let five = c.flag.ensures _ four in
    let six = c.flag-served.ensures _ five in
    c.limited.ensures _ six
