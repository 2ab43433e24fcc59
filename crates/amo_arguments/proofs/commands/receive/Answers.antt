use Rattle.amo_arguments.proofs.commands.receive.Goals as goal

pub returns : goal.returns
returns c =
    c.optional_number.ensures _ c.host.ensures
