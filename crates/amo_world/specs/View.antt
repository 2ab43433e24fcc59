-- A stream as a queue in doubt, read off both modes, the packets emitted, and what was not taken yet.
use Rattle.std.specs.Prelude.{ℕ, ◌==◌, Bool, true, false, ◌&&◌, ◌||◌, not, if◌then◌else◌, List, [], ◌∷◌, ◌++◌}
use Rattle.amo_object.specs.declared.status.Status.{Status}
use Rattle.amo_object.specs.declared.status.Status.TheVariants.{Yes, No, Open}
use Rattle.amo_object.specs.Queue.{status_of}
use Rattle.amo_packet.specs.declared.packet.OwnedPacket.{OwnedPacket}
use Rattle.amo_packet.specs.declared.packet.OwnedBody.{OwnedBody}
use Rattle.amo_packet.specs.declared.packet.OwnedBody.TheVariants as packet
use Rattle.amo_packet.specs.Batch.{messages}
use Rattle.amo_core.specs.declared.sender.SenderMode.{SenderMode}
use Rattle.amo_core.specs.declared.sender.SenderMode.TheVariants as sending
use Rattle.amo_core.specs.declared.receiver.ReceiverMode.{ReceiverMode}
use Rattle.amo_core.specs.declared.receiver.ReceiverMode.TheVariants as receiving
use Rattle.amo_core.specs.Sender as sender
use Rattle.amo_core.specs.Receiver.{is_holding, is_acking}
use Rattle.amo_world.specs.Stream.{Stream}
use Rattle.amo_world.specs.Doubt.{Entry, DoubtState, entry}

-- these messages, all of them in doubt or none
abbrev pub entries : Bool → List (List ℕ) → List Entry
entries doubted [] = []
entries doubted (m ∷ ms) = entry doubted m ∷ entries doubted ms

-- the receiver has an identifier: it accepts sends under it, holds messages under it, or acks those that its client took; a crash
-- loses it
abbrev pub has : ReceiverMode → ℕ → Bool
has (receiving.Accept jd accepted) id = accepted == id
has (receiving.Rcvd under held) id = under == id
has (receiving.Ack under) id = under == id
has receiving.Idle id = false
has receiving.Down id = false

-- the messages sent under an identifier, if any were
abbrev pub carried_by : OwnedBody → ℕ → List (List ℕ) → List (List ℕ)
carried_by (packet.Send under m) id earlier = if under == id then m ∷ [] else earlier
carried_by (packet.Batch under b) id earlier = if under == id then messages b else earlier
carried_by _ id earlier = earlier

abbrev pub carried : List OwnedPacket → ℕ → List (List ℕ)
carried [] id = []
carried (p ∷ ps) id = carried_by p.body id (carried ps id)

-- an accept for this needuid, of an identifier that the receiver does not have any more. While the sender asks under it, a crash alone
-- can have lost that.
abbrev pub is_lost_accept : ReceiverMode → ℕ → OwnedBody → Bool
is_lost_accept mode jd (packet.Accept asked id) = (asked == jd) && not (has mode id)
is_lost_accept mode jd _ = false

-- some such accept may still be delivered to the sender
abbrev pub may_meet_lost_accept : ReceiverMode → ℕ → List OwnedPacket → Bool
may_meet_lost_accept mode jd [] = false
may_meet_lost_accept mode jd (p ∷ ps) = is_lost_accept mode jd p.body || may_meet_lost_accept mode jd ps

-- the messages that the receiver holds, in no doubt; or, while it accepts an identifier under which the sender does not send any more, the
-- messages that were sent under it, which may still arrive and are in doubt
abbrev pub received : SenderMode → ReceiverMode → List OwnedPacket → List Entry
received mode (receiving.Rcvd id b) from_sender = entries false (messages b)
received mode (receiving.Accept jd id) from_sender = if sender.is_sending mode id then [] else entries true (carried from_sender id)
received mode _ from_sender = []

-- what the sender is about to send, or sends and the receiver's client did not take, unless the receiver holds it and it is listed there:
-- in doubt where a crash of the receiver lost the identifier that it has, or may get
abbrev pub current : SenderMode → ReceiverMode → List OwnedPacket → List (List ℕ) → List Entry
current (sending.NeedId jd load) mode from_receiver untaken = entries (may_meet_lost_accept mode jd from_receiver) (sender.messages_in load)
current (sending.Send id load) mode from_receiver untaken = if is_holding mode id then [] else entries (not (has mode id)) untaken
current _ mode from_receiver untaken = []

-- what is known of the last message put
abbrev pub known_of : SenderMode → List (List ℕ) → Status
known_of (sending.Quiet got) untaken = status_of got
known_of (sending.NeedId jd load) untaken = Open
known_of (sending.Send id load) [] = Yes
known_of (sending.Send id load) (m ∷ untaken) = Open
known_of sending.Down untaken = No

abbrev pub known : SenderMode → List (List ℕ) → List (List ℕ) → Status
known sending.Down waiting untaken = No
known mode [] untaken = known_of mode untaken
known mode (m ∷ waiting) untaken = Open

-- the last message put was taken, no ack of it was delivered to the sender, and the receiver has forgotten it
abbrev pub is_known_in_doubt : SenderMode → List (List ℕ) → List (List ℕ) → ReceiverMode → Bool
is_known_in_doubt (sending.Send id load) [] [] mode = not (is_acking mode id)
is_known_in_doubt _ waiting untaken mode = false

abbrev pub is_receiver_down : ReceiverMode → Bool
is_receiver_down receiving.Down = true
is_receiver_down _ = false

-- the stream as a queue in doubt
abbrev pub view_of : SenderMode → List (List ℕ) → ReceiverMode → List OwnedPacket → List OwnedPacket → List (List ℕ) → DoubtState
view_of mode waiting at from_sender from_receiver untaken = record {
  entries = received mode at from_sender ++ (current mode at from_receiver untaken ++ entries false waiting);
  status = known mode waiting untaken;
  status_doubted = is_known_in_doubt mode waiting untaken at;
  sender_down = sender.is_down mode;
  receiver_down = is_receiver_down at;
}

abbrev pub view : Stream → DoubtState
view s = view_of s.sender.state.mode s.sender.state.waiting s.receiver.state.mode s.sender.emitted s.receiver.emitted s.untaken
