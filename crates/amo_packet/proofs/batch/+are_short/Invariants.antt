use Rattle.std.proofs.Common.{length}
use Rattle.amo_packet.specs.Packet.{batch_of}
use Rattle.amo_packet.proofs.batch.+are_short.Given as goal

abbrev pub decreases-are_short : goal.decreases-are_short
decreases-are_short l = length (batch_of l.parts.now).rest
