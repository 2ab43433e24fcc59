use Rattle.clap.specs.Words.{found_of, rows_of}
use Rattle.amo_arguments.proofs.Refused.{finds_handed_on}
use Rattle.amo_arguments.proofs.Unfit.{no_ceiling}
use Rattle.amo_arguments.proofs.arguments.tick_most_of.Goals as goal

pub returns-in_err-check_ceiling : goal.returns-in_err-check_ceiling
returns-in_err-check_ceiling c =
    finds_handed_on _ c.from_residual-in_err-check_ceiling.result c.in_err-check_ceiling.field-0.0 c.from_residual-in_err-check_ceiling.ensures
    (no_ceiling (rows_of (found_of c.args.matches.now)) c.args.tick c.in_ok-most.most _ c.in_ok-most.ensures c.in_err-check_ceiling.ensures.refused)
