use Rattle.std.proofs.Common.{arith}
use Rattle.amo_packet.proofs.Fields.{send_said}
use Rattle.amo_packet.proofs.reader.read_send.Goals as goal

pub returns-in-Some : goal.returns-in-Some
returns-in-Some c =
    let sent = c.in-Some.ensures.some in
    λ newest stream v small. send_said newest stream c.read_u64.result c.in-Some.message.now c.args.fields.now v small c.read_u64.type_inv sent.short (λ i. omega (arith, c.type_inv.fields i)) sent.there c.read_u64.ensures sent.given sent.is
