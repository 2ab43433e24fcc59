use Rattle.std.proofs.Common.{length}
use Rattle.amo_packet.specs.Packet.{batch_of}
use Rattle.amo_packet.proofs.writer.+write_messages.Given as goal

abbrev pub decreases-write_messages : goal.decreases-write_messages
decreases-write_messages l = length (batch_of l.batch.now).rest
