use Rattle.amo_arguments.proofs.commands.send.Goals as goal

pub returns : goal.returns
returns c =
    let one = c.flag.ensures _ c.host.ensures in
    let two = c.flag-2.ensures _ one in
    let three = c.flag-3.ensures _ two in
    c.flag-4.ensures _ three
