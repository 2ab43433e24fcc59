use Rattle.clap.specs.Words.{found_of, rows_of}
use Rattle.amo_arguments.proofs.Refused.{handed_on}
use Rattle.amo_arguments.proofs.Unfit.{serve_door}
use Rattle.amo_arguments.proofs.arguments.parse_serve.Goals as goal

pub returns-in_err-door-clause-refused : goal.returns-in_err-door-clause-refused
returns-in_err-door-clause-refused c =
    handed_on _ c.from_residual-in_err-door.result c.in_err-door.field-0.0 c.from_residual-in_err-door.ensures
    (serve_door (rows_of (found_of c.args.matches.now)) _ c.in_err-door.ensures.refused)
