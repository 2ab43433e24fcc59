use Rattle.clap.specs.Words.{found_of, rows_of}
use Rattle.amo_arguments.proofs.Refused.{finds_handed_on}
use Rattle.amo_arguments.proofs.Unfit.{served_ceiling}
use Rattle.amo_arguments.proofs.arguments.parse_served_host.Goals as goal

pub returns-in_err-tick_most : goal.returns-in_err-tick_most
returns-in_err-tick_most c =
    finds_handed_on _ c.from_residual-in_err-tick_most.result c.in_err-tick_most.field-0.0 c.from_residual-in_err-tick_most.ensures
    (served_ceiling (rows_of (found_of c.args.matches.now)) c.in_ok-tick.tick _ c.in_ok-tick.ensures c.in_err-tick_most.ensures)
