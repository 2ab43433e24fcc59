use Rattle.std.proofs.Common.{arith}
use Rattle.std.specs.Fmt.{decimal}
use Rattle.amo_text.specs.Hexadecimal.{hex}
use Rattle.amo_text.proofs.Cuts.{IsField-decimal}
use Rattle.amo_schedule.proofs.Reading.{no_put, after_number}
use Rattle.amo_schedule.proofs.reader.read_put.Goals as goal

pub returns-in_err-stream : goal.returns-in_err-stream
returns-in_err-stream c =
    rw c.from_residual.ensures (no_put c.args.fields.now (λ s m p message e. c.in_err-stream.ensures.none s (hex m) p e))

pub returns-else-is_message : goal.returns-else-is_message
returns-else-is_message c =
    let found = c.in_ok-stream.ensures.found in
    let lacks = (IsField-decimal c.in_ok-stream.stream (omega (arith, found.0.1))).0 in
    no_put c.args.fields.now (λ s m p message e.
    let is = c.is_message.ensures.1 (m, message, (after_number s (hex m) c.args.fields.now _ _ (omega arith) found.1 lacks e).1) in
    cc (is, c.if-is_message.false))
