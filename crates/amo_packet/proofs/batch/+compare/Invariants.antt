use Rattle.std.proofs.Common.{length}
use Rattle.amo_packet.specs.Packet.{batch_of}
use Rattle.amo_packet.proofs.batch.+compare.Given as goal

abbrev pub decreases-compare : goal.decreases-compare
decreases-compare l = length (batch_of l.batch.now).rest
