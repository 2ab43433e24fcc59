use Rattle.clap.specs.Words.{found_of, rows_of}
use Rattle.amo_arguments.proofs.Refused.{finds_handed_on}
use Rattle.amo_arguments.proofs.Unfit.{side_batch, side_name}
use Rattle.amo_arguments.proofs.arguments.parse_side.Goals as goal

pub returns-in_err-batch : goal.returns-in_err-batch
returns-in_err-batch c =
    finds_handed_on _ c.from_residual.result c.in_err-batch.field-0.0 c.from_residual.ensures
    (side_batch (rows_of (found_of c.args.matches.now)) _ c.in_err-batch.ensures)

pub returns-in_err-is_sender : goal.returns-in_err-is_sender
returns-in_err-is_sender c =
    finds_handed_on _ c.from_residual-in_err-is_sender.result c.in_err-is_sender.field-0.0 c.from_residual-in_err-is_sender.ensures
    (side_name (rows_of (found_of c.args.matches.now)) c.in_ok-batch.batch _ c.in_ok-batch.ensures c.in_err-is_sender.ensures)
