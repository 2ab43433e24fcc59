-- Packets, as contracts see them: each as the packet that owns its messages.
use Rattle.amo_packet.specs.Batch as batch
use Rattle.amo_packet.specs.Lent.{lent_messages}
use Rattle.amo_packet.specs.declared.parts.Parts.{Parts}
use Rattle.amo_packet.specs.declared.packet.OwnedPacket.{OwnedPacket}
use Rattle.amo_packet.specs.declared.packet.OwnedBody.{OwnedBody}
use Rattle.amo_packet.specs.declared.packet.OwnedBody.TheVariants.{NeedUid, Accept, Send, Ack, Cleanup, Batch}
use Rattle.amo_packet.specs.declared.packet.Packet.{Packet}
use Rattle.amo_packet.specs.declared.packet.Body.{Body}
use Rattle.amo_packet.specs.declared.packet.Body.TheVariants as borrowed

-- the batch of messages that lie elsewhere
abbrev pub batch_of : Parts → batch.Batch
batch_of parts = batch.batch_from (lent_messages parts.lent)

-- what a packet says, with the bytes of its messages
abbrev pub body_of : Body → OwnedBody
body_of (borrowed.NeedUid jd) = NeedUid jd
body_of (borrowed.Accept jd id) = Accept jd id
body_of (borrowed.Send id bytes) = Send id bytes.now
body_of (borrowed.Ack id got) = Ack id got
body_of (borrowed.Cleanup id) = Cleanup id
body_of (borrowed.Batch id parts) = Batch id (batch_of parts)

-- the packet that a borrowed one stands for
abbrev pub packet_of : Packet → OwnedPacket
packet_of p = record { stream = p.stream; body = body_of p.body }
