use Rattle.std.proofs.Common.{◌≡◌, ◌-◌, length, take, drop, ap, ◌∙◌, arith}
use Rattle.std.proofs.lemmas.List.{take_rest, length-drop}
use Rattle.byteorder.specs.Endian.{big_number}
use Rattle.amo_packet.proofs.MessageFaults.{message_there}
use Rattle.amo_packet.proofs.reader.after_message.Goals as goal

pub returns-clause-ok : goal.returns-clause-ok
returns-clause-ok c =
    let bytes = c.args.bytes.now in
    let n = c.from-given.result in
    let message = take (length bytes - 2) (drop 2 bytes) in
    let len : length message ≡ length bytes - 2 = ap length (take_rest bytes 2) ∙ length-drop 2 bytes in
    let rest : take (length message - n) (drop n message) ≡ drop n (drop 2 bytes) = take_rest message n ∙ ap (drop n) (take_rest bytes 2) in
    let given : n ≡ big_number 2 bytes = c.from-given.ensures ∙ c.read_u16.ensures in
    λ more. message_there more n bytes (take (length message - n) (drop n message)) given rest (omega arith) (omega arith) (omega arith)
