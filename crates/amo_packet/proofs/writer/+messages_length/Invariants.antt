use Rattle.std.proofs.Common.{length}
use Rattle.amo_packet.specs.Packet.{batch_of}
use Rattle.amo_packet.proofs.writer.+messages_length.Given as goal

abbrev pub decreases-messages_length : goal.decreases-messages_length
decreases-messages_length l = length (batch_of l.batch.now).rest
