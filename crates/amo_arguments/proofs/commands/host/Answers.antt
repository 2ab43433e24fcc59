use Rattle.amo_arguments.proofs.commands.host.Goals as goal

pub returns : goal.returns
returns c =
    let one = c.timed.ensures _ c.placed-here.ensures in
    let two = c.flag.ensures _ one in
    let three = c.flag-shown.ensures _ two in
    let four = c.limited.ensures _ three in
    c.optional_number.ensures _ four
