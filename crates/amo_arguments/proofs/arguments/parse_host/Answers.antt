use Rattle.clap.specs.Words.{found_of, rows_of}
use Rattle.amo_arguments.proofs.Refused.{finds_handed_on}
use Rattle.amo_arguments.proofs.Unfit.{host_served}
use Rattle.amo_arguments.proofs.arguments.parse_host.Goals as goal

pub returns-in_err-plain : goal.returns-in_err-plain
returns-in_err-plain c =
    finds_handed_on _ c.from_residual-in_err-plain.result c.in_err-plain.field-0.0 c.from_residual-in_err-plain.ensures
    (host_served (rows_of (found_of c.args.matches.now)) _ c.in_err-plain.ensures)
