use Rattle.std.proofs.Common.{sym, subst}
use Rattle.amo_packet.specs.Batch.{AreShort}
use Rattle.amo_packet.specs.Packet.{batch_of}
use Rattle.amo_packet.proofs.Lending.{blank_is}
use Rattle.amo_packet.proofs.batch.Batch.copy.Goals as goal

pub returns-then-are_blank-clause-ok : goal.returns-then-are_blank-clause-ok
returns-then-are_blank-clause-ok c =
    let batch = batch_of c.args.parts.now in
    let same = blank_is batch c.len.result c.len.ensures.value (c.are_blank.ensures.0 c.if-are_blank.true) in
    (same, subst AreShort (sym same) (c.are_short.ensures.0 c.if-not-are_short.false))
