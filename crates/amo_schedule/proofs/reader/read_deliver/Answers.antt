use Rattle.std.specs.Fmt.{decimal}
use Rattle.amo_text.proofs.Cuts.{IsField-decimal}
use Rattle.amo_schedule.proofs.Reading.{no_deliver, after_number}
use Rattle.amo_schedule.proofs.reader.read_deliver.Goals as goal

pub returns-in_err-number : goal.returns-in_err-number
returns-in_err-number c = rw c.from_residual.ensures (no_deliver c.args.fields.now (λ k w p q e. c.in_err-number.ensures.none k (decimal w) p e))

pub returns-in_err-read_decimal : goal.returns-in_err-read_decimal
returns-in_err-read_decimal c =
    let found = c.in_ok-number.ensures.found in
    let lacks = (IsField-decimal c.in_ok-number.number found.0).0 in
    rw c.from_residual-in_err-read_decimal.ensures (no_deliver c.args.fields.now (λ k w p q e.
    c.in_err-read_decimal.ensures.none w q (after_number k (decimal w) c.args.fields.now _ _ p found.1 lacks e).1))
