use Rattle.amo_arguments.proofs.Described.{with_argument}
use Rattle.amo_arguments.proofs.commands.timed.Goals as goal

pub returns : goal.returns
returns c = λ app is. c.optional_number.ensures _ (with_argument _ _ _ _ _ c.arg.ensures c.tick.ensures.rule c.tick.ensures.local is)
