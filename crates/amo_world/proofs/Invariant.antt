-- The invariant: what holds of a stream after each history that is honest and fresh.
use Rattle.std.proofs.Common.{◌≡◌, ℕ, true, false, List, [], ◌∷◌}
use Rattle.std.specs.List.{Contains}
use Rattle.amo_packet.specs.declared.packet.OwnedPacket.{OwnedPacket}
use Rattle.amo_core.specs.declared.sender.SenderMode.{SenderMode}
use Rattle.amo_core.specs.declared.sender.SenderMode.TheVariants as sending
use Rattle.amo_packet.specs.Batch.{messages}
use Rattle.amo_core.specs.Sender.{messages_in}
use Rattle.amo_core.specs.declared.receiver.ReceiverMode.{ReceiverMode}
use Rattle.amo_core.specs.declared.receiver.ReceiverMode.TheVariants as receiving
use Rattle.amo_world.specs.Stream.{Stream}
use Rattle.amo_world.specs.View.{has}
use Rattle.amo_world.proofs.Packets.{Any, IsNeeduid, IsAcceptFor, IsAccept, IsSend, IsAck, IsCleanup, IsPastAccept}

-- of the packets alone: what the sender emitted, and what the receiver emitted
pub record PacketFacts (from_sender from_receiver : List OwnedPacket) : Type 0 where
  -- what is accepted was asked for
  pub asked : (jd id : ℕ) → Any (IsAcceptFor jd id) from_receiver → Any (IsNeeduid jd) from_sender
  -- an identifier is accepted for one needuid
  pub one_needuid : (jd other id : ℕ) → Any (IsAcceptFor jd id) from_receiver → Any (IsAcceptFor other id) from_receiver → jd ≡ other
  -- an identifier is accepted before any other packet bears it
  pub accepted_first : (id : ℕ) → Any (IsPastAccept id) from_sender → Any (IsAccept id) from_receiver
  pub accepted_before : (id : ℕ) → Any (IsPastAccept id) from_receiver → Any (IsAccept id) from_receiver
  -- the same messages are sent under an identifier, whenever they are
  pub one_message : (id : ℕ) (m n : List (List ℕ)) → Any (IsSend id m) from_sender → Any (IsSend id n) from_sender → m ≡ n

-- the receiver took a message under an identifier
abbrev pub Took : ReceiverMode → ℕ → Type 0
Took (receiving.Rcvd under held) id = under ≡ id
Took (receiving.Ack under) id = under ≡ id
Took receiving.Idle id = ⊥
Took (receiving.Accept jd accepted) id = ⊥
Took receiving.Down id = ⊥

-- an identifier that was accepted at most
pub record IsUntouched (id : ℕ) (at : ReceiverMode) (from_sender from_receiver : List OwnedPacket) : Type 0 where
  pub sender_not_past : Any (IsPastAccept id) from_sender → ⊥
  pub receiver_not_past : Any (IsPastAccept id) from_receiver → ⊥
  pub not_taken : Took at id → ⊥

-- of a sender that asks for an identifier: it emitted its needuid, and no identifier accepted for it is in use yet
pub record AskingFacts (jd : ℕ) (at : ReceiverMode) (from_sender from_receiver : List OwnedPacket) : Type 0 where
  pub asked : Any (IsNeeduid jd) from_sender
  pub untouched : (id : ℕ) → Any (IsAcceptFor jd id) from_receiver → IsUntouched id at from_sender from_receiver

-- what is not taken yet of messages sent under an identifier, as far as the receiver has the identifier
abbrev pub Untaken : ReceiverMode → ℕ → List (List ℕ) → List (List ℕ) → Type 0
Untaken (receiving.Accept jd accepted) id sent untaken = accepted ≡ id → untaken ≡ sent
Untaken (receiving.Rcvd under held) id sent untaken = under ≡ id → untaken ≡ messages held
Untaken (receiving.Ack under) id sent untaken = under ≡ id → untaken ≡ []
Untaken receiving.Idle id sent untaken = Unit {0}
Untaken receiving.Down id sent untaken = Unit {0}

-- of a sender that sends messages
pub record SendingFacts (id : ℕ) (sent : List (List ℕ)) (at : ReceiverMode) (from_sender from_receiver : List OwnedPacket)
    (untaken : List (List ℕ)) : Type 0 where
  pub was_sent : Any (IsSend id sent) from_sender
  pub no_cleanup : Any (IsCleanup id) from_sender → ⊥
  pub if_got : Any (IsAck id true) from_receiver → untaken ≡ []
  pub if_lost : Any (IsAck id false) from_receiver → has at id ≡ false
  pub untaken_is : Untaken at id sent untaken

-- of the sender's mode
abbrev pub SenderFacts : SenderMode → List (List ℕ) → ReceiverMode → List OwnedPacket → List OwnedPacket → List (List ℕ) → Type 0
SenderFacts (sending.Quiet got) waiting at from_sender from_receiver untaken = Unit {0}
SenderFacts (sending.NeedId jd load) waiting at from_sender from_receiver untaken = AskingFacts jd at from_sender from_receiver
SenderFacts (sending.Send id load) waiting at from_sender from_receiver untaken = SendingFacts id (messages_in load) at from_sender from_receiver untaken
SenderFacts sending.Down waiting at from_sender from_receiver untaken = waiting ≡ []

-- of the receiver's mode: what it has it accepted
abbrev pub ReceiverFacts : ReceiverMode → List OwnedPacket → Type 0
ReceiverFacts (receiving.Accept jd id) from_receiver = Any (IsAcceptFor jd id) from_receiver
ReceiverFacts (receiving.Rcvd id m) from_receiver = Any (IsAccept id) from_receiver
ReceiverFacts (receiving.Ack id) from_receiver = Any (IsAccept id) from_receiver
ReceiverFacts receiving.Idle from_receiver = Unit {0}
ReceiverFacts receiving.Down from_receiver = Unit {0}

-- the invariant of both sides: their modes, the messages that wait, what each emitted, what is untaken, and the words that each used up
pub record InvariantAt (mode : SenderMode) (waiting : List (List ℕ)) (at : ReceiverMode) (from_sender from_receiver : List OwnedPacket)
    (untaken : List (List ℕ)) (sender_words receiver_words : List ℕ) : Type 0 where
  pub packets : PacketFacts from_sender from_receiver
  pub sender : SenderFacts mode waiting at from_sender from_receiver untaken
  pub receiver : ReceiverFacts at from_receiver
  pub needuid_words : (jd : ℕ) → Any (IsNeeduid jd) from_sender → Contains sender_words jd
  pub accept_words : (id : ℕ) → Any (IsAccept id) from_receiver → Contains receiver_words id

abbrev pub Invariant : Stream → Type 0
Invariant s =
    InvariantAt s.sender.state.mode s.sender.state.waiting s.receiver.state.mode s.sender.emitted s.receiver.emitted s.untaken
    s.sender.words s.receiver.words
