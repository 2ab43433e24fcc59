use Rattle.amo_arguments.proofs.Described.{with_argument}
use Rattle.amo_arguments.proofs.commands.outcomes.Goals as goal

pub returns : goal.returns
returns c =
    let one = with_argument _ _ _ _ _ c.arg.ensures c.file.ensures.rule c.file.ensures.local c.with_texts.ensures in
    let two = with_argument _ _ _ _ _ c.arg-2.ensures c.second_file.ensures.rule c.second_file.ensures.local one in
    let three = c.flag.ensures _ two in
    let four = c.flag-2.ensures _ three in
    c.flag-3.ensures _ four
