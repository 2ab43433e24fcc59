use Rattle.std.proofs.Common.{length}
use Rattle.amo_packet.specs.Packet.{batch_of}
use Rattle.amo_packet.proofs.batch.+push_copies.Given as goal

abbrev pub decreases-push_copies : goal.decreases-push_copies
decreases-push_copies l = length (batch_of l.parts.now).rest
