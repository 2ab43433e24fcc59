use Rattle.std.proofs.Common.{arith}
use Rattle.std.specs.Fmt.{decimal}
use Rattle.amo_text.proofs.Cuts.{IsField-decimal}
use Rattle.amo_schedule.proofs.Reading.{after_number}
use Rattle.amo_schedule.proofs.reader.read_word_of_stream.Goals as goal

pub returns-in_err-stream-clause-none : goal.returns-in_err-stream-clause-none
returns-in_err-stream-clause-none c = rw c.from_residual.ensures (λ s w p q e. c.in_err-stream.ensures.none s (decimal w) p e)

pub returns-in_err-read_decimal-clause-none : goal.returns-in_err-read_decimal-clause-none
returns-in_err-read_decimal-clause-none c =
    let found = c.in_ok-stream.ensures.found in
    let lacks = (IsField-decimal c.in_ok-stream.stream (omega (arith, found.0.1))).0 in
    rw c.from_residual-in_err-read_decimal.ensures (λ s w p q e.
    c.in_err-read_decimal.ensures.none w q (after_number s (decimal w) c.args.fields.now _ _ (omega arith) found.1 lacks e).1)
