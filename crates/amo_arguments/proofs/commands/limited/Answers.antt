use Rattle.amo_arguments.proofs.commands.limited.Goals as goal

pub returns : goal.returns
returns c = λ app is. c.optional_number-2.ensures _ (c.optional_number.ensures _ is)
