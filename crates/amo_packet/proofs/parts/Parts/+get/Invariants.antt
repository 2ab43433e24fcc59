use Rattle.std.proofs.Common.{length}
use Rattle.amo_packet.specs.Packet.{batch_of}
use Rattle.amo_packet.proofs.parts.Parts.+get.Given as goal

abbrev pub decreases-get : goal.decreases-get
decreases-get l = length (batch_of l.self.now).rest
