-- What a side holds of a handshake, and which acts may change it.
use Rattle.std.specs.Prelude.{◌≡◌, true}
use Rattle.amo_packet.specs.declared.packet.OwnedBody.{OwnedBody}
use Rattle.amo_packet.specs.declared.packet.OwnedBody.TheVariants as packet
use Rattle.amo_core.specs.declared.act.Act.{Act}
use Rattle.amo_core.specs.declared.act.Act.TheVariants.{Get, Start, Batch, Deliver, Crash}
use Rattle.amo_core.specs.declared.sender.SenderMode.{SenderMode}
use Rattle.amo_core.specs.declared.receiver.ReceiverMode.{ReceiverMode}
use Rattle.amo_core.specs.Sender as sender
use Rattle.amo_core.specs.Receiver as receiver

-- an ack under the identifier that the sender sends under
abbrev pub IsAckForSender : SenderMode → OwnedBody → Type 0
IsAckForSender mode (packet.Ack id got) = sender.is_sending mode id ≡ true
IsAckForSender mode _ = ⊥

-- after such an act a sender may hold other messages, or none
abbrev pub MayChangeSender : SenderMode → Act → Type 0
MayChangeSender mode (Start word) = Unit {0}
MayChangeSender mode (Batch word) = Unit {0}
MayChangeSender mode (Deliver p word) = IsAckForSender mode p.body
MayChangeSender mode Crash = Unit {0}
MayChangeSender mode _ = ⊥

-- a send or a batch under the identifier that the receiver accepted
abbrev pub IsSendForReceiver : ReceiverMode → OwnedBody → Type 0
IsSendForReceiver mode (packet.Send id m) = receiver.is_accepting mode id ≡ true
IsSendForReceiver mode (packet.Batch id b) = receiver.is_accepting mode id ≡ true
IsSendForReceiver mode _ = ⊥

-- after such an act a receiver may hold other messages, or none
abbrev pub MayChangeReceiver : ReceiverMode → Act → Type 0
MayChangeReceiver mode Get = Unit {0}
MayChangeReceiver mode (Deliver p word) = IsSendForReceiver mode p.body
MayChangeReceiver mode Crash = Unit {0}
MayChangeReceiver mode _ = ⊥
