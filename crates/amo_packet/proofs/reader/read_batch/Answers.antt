use Rattle.std.proofs.Common.{arith}
use Rattle.std.proofs.lemmas.List.{take_rest}
use Rattle.amo_packet.proofs.Fields.{batch_said}
use Rattle.amo_packet.proofs.reader.read_batch.Goals as goal

pub returns : goal.returns
returns c =
    let fields = c.args.fields.now in
    let batch = c.in_ok-count.ensures in
    λ newest stream v small. rw (c.spelt-batch.ensures, take_rest fields 9) (batch_said newest stream c.read_u64.result _ fields v small c.read_u64.type_inv (λ i. omega (arith, c.type_inv.fields i)) batch.long c.read_u64.ensures batch.count.0 batch.count.1 batch.count.2 batch.messages)
