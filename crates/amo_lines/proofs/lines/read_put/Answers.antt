use Rattle.std.proofs.Common.{ℕ, List, Result, Err, sym, ap, ◌∙◌, arith, rules}
use Rattle.amo_packet.specs.declared.message.MessageFault.{MessageFault}
use Rattle.amo_lines.proofs.Clients.{behind_field, is_put, no_hex, no_space, no_stream, plain_spelt, too_many}
use Rattle.amo_lines.proofs.lines.read_put.Goals as goal

pub returns-in_default : goal.returns-in_default
returns-in_default c = no_space c.args.spelling c.args.line.now c.in_default.ensures.none

pub returns-in_default-read_stream : goal.returns-in_default-read_stream
returns-in_default-read_stream c =
    no_stream c.args.spelling c.args.line.now c.in-Some.field.now c.in-Some.text.now c.no_stream.result c.in-Some.ensures.found.0 c.in-Some.ensures.found.1 c.in_default-read_stream.ensures.none c.no_stream.ensures

pub returns-in_default-2 : goal.returns-in_default-2
returns-in_default-2 c =
    no_hex c.args.spelling c.args.line.now c.in-Some.field.now c.in-Some.text.now c.in-Some-read_stream.stream c.if-spelling.true c.in-Some.ensures.found.0 c.in-Some.ensures.found.1 c.in-Some-read_stream.ensures.found.1
    (rw c.in_default-2.is at c.in_ok-message.ensures.none)

pub returns-in-Ok : goal.returns-in-Ok
returns-in-Ok c =
    let bytes = behind_field c.args.line.now c.in-Some.field.now c.in-Some.text.now c.in-Some.ensures.found.0 (λ k. omega (arith, c.type_inv.line k)) in
    is_put c.args.spelling c.args.line.now c.in-Some.field.now c.in-Some.text.now c.in-Some-read_stream.stream c.in-Ok.message c.in-Some.ensures.found.0 c.in-Some-read_stream.ensures.found.0 c.in-Some-read_stream.ensures.found.1
    (c.in-Ok.ensures.ok.1, rw c.in-Ok.ensures.ok.0 bytes) (sym c.in-Ok.ensures.ok.0 ∙ sym (plain_spelt c.args.spelling c.in-Ok.message c.if-spelling.false))

pub returns-in-Err-TooLong : goal.returns-in-Err-TooLong
returns-in-Err-TooLong c =
    let long = c.in-Err-TooLong.ensures.too_long.0 (ap (λ (f : MessageFault). let r : Result (List ℕ) MessageFault = Err f in r) c.in-Err-TooLong.field-0-is) in
    too_many c.args.spelling c.args.line.now c.in-Some.field.now c.in-Some.text.now c.in-Some-read_stream.stream _ c.if-spelling.false c.in-Some.ensures.found.0 c.in-Some.ensures.found.1 c.in-Some-read_stream.ensures.found.1
    (search rules) (omega (arith, long))
