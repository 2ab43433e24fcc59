use Rattle.amo_arguments.proofs.Described.{with_argument}
use Rattle.amo_arguments.proofs.commands.got.Goals as goal

pub returns : goal.returns
returns c =
    let one = with_argument _ _ _ _ _ c.arg.ensures c.file.ensures.rule c.file.ensures.local c.with_texts.ensures in
    let two = c.optional_number.ensures _ one in
    let three = c.flag.ensures _ two in
    c.flag-2.ensures _ three
