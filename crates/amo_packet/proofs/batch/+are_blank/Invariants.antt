use Rattle.std.proofs.Common.{length}
use Rattle.amo_packet.specs.Packet.{batch_of}
use Rattle.amo_packet.proofs.batch.+are_blank.Given as goal

abbrev pub decreases-are_blank : goal.decreases-are_blank
decreases-are_blank l = length (batch_of l.parts.now).rest
