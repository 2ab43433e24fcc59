use Rattle.std.proofs.Common.{arith}
use Rattle.amo_packet.proofs.MessageFaults.{length-split}
use Rattle.amo_packet.proofs.parts.Parts.spelt.Goals as goal

pub invariant_of-result : goal.invariant_of-result
invariant_of-result c =
    let len = length-split c.args.count c.args.bytes.now in
    record { some = omega arith; most = omega arith; faultless = c.requires.faultless }
