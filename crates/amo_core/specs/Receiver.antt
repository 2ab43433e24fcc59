-- The table of a receiver.
use Rattle.std.specs.Prelude.{ℕ, ◌==◌, Bool, true, false, if◌then◌else◌, List, [], ◌∷◌, Option, Some, None}
use Rattle.amo_packet.specs.declared.packet.OwnedPacket.{OwnedPacket}
use Rattle.amo_packet.specs.declared.packet.OwnedBody.{OwnedBody}
use Rattle.amo_packet.specs.declared.packet.OwnedBody.TheVariants as packet
use Rattle.amo_packet.specs.Batch.{Batch, alone, messages}
use Rattle.amo_core.specs.declared.act.Act.{Act}
use Rattle.amo_core.specs.declared.act.Act.TheVariants as act
use Rattle.amo_core.specs.declared.reply.Reply.TheVariants as reply
use Rattle.amo_core.specs.declared.mode.Mode.{Mode}
use Rattle.amo_core.specs.declared.mode.Mode.TheVariants as kind_of
use Rattle.amo_core.specs.declared.receiver.ReceiverMode.{ReceiverMode}
use Rattle.amo_core.specs.declared.receiver.ReceiverMode.TheVariants.{Idle, Accept, Rcvd, Ack, Down}
use Rattle.amo_core.specs.Row.{Row, silent, done, unknown}
pub mod Replies

-- the stream, which its packets bear, and the mode
pub record ReceiverState : Type 0 where
  pub stream : ℕ
  pub mode : ReceiverMode

-- at rest
abbrev pub initial : ℕ → ReceiverState
initial stream = record { stream = stream; mode = Idle }

-- the kind of a mode
abbrev pub kind : ReceiverMode → Mode
kind Idle = kind_of.Idle
kind (Accept jd id) = kind_of.Accept
kind (Rcvd id b) = kind_of.Rcvd
kind (Ack id) = kind_of.Ack
kind Down = kind_of.Down

-- nothing is emitted
abbrev pub quietly : ReceiverState → Row ReceiverState
quietly s = done s None

-- a packet of the receiver's stream is emitted
abbrev pub emitting : ReceiverState → OwnedBody → Row ReceiverState
emitting s body = done s (Some (record { stream = s.stream; body = body }))

-- a needuid: at rest it is accepted under the word, and where it was accepted already the accept is emitted again
abbrev pub needuid : ReceiverState → ReceiverMode → ℕ → ℕ → Row ReceiverState
needuid s Idle jd word = emitting (record s { mode = Accept jd word }) (packet.Accept jd word)
needuid s (Accept asked id) jd word = if asked == jd then emitting s (packet.Accept jd id) else quietly s
needuid s _ jd word = quietly s

-- a batch: its messages are held under the identifier accepted last; under another one it emits an ack
abbrev pub batch : ReceiverState → ReceiverMode → ℕ → Batch → Row ReceiverState
batch s Idle id b = emitting s (packet.Ack id false)
batch s (Accept jd accepted) id b = if accepted == id then quietly (record s { mode = Rcvd id b }) else emitting s (packet.Ack id false)
batch s (Rcvd under held) id b = if under == id then quietly s else emitting s (packet.Ack id false)
batch s (Ack under) id b = emitting s (packet.Ack id (under == id))
batch s Down id b = quietly s

-- a send: it is as a batch of its message alone
abbrev pub send : ReceiverState → ReceiverMode → ℕ → List ℕ → Row ReceiverState
send s mode id m = batch s mode id (alone m)

-- a cleanup: the sender is done with an identifier; a message that was not got yet is kept
abbrev pub cleanup : ReceiverState → ReceiverMode → ℕ → Row ReceiverState
cleanup s (Accept jd accepted) id = quietly (if accepted == id then record s { mode = Idle } else s)
cleanup s (Ack under) id = quietly (if under == id then record s { mode = Idle } else s)
cleanup s _ id = quietly s

-- a delivery, with the word for an accept; one that belongs to a sender changes nothing
abbrev pub deliver : ReceiverState → OwnedBody → ℕ → Row ReceiverState
deliver s (packet.NeedUid jd) word = needuid s s.mode jd word
deliver s (packet.Send id m) word = send s s.mode id m
deliver s (packet.Batch id b) word = batch s s.mode id b
deliver s (packet.Cleanup id) word = cleanup s s.mode id
deliver s _ word = quietly s

-- the mode once the first of the messages held was got: it is acknowledged when the last one was
abbrev pub with_rest : ℕ → List (List ℕ) → ReceiverMode
with_rest id [] = Ack id
with_rest id (m ∷ rest) = Rcvd id (record { first = m; rest = rest })

-- the client gets the first message held
abbrev pub get : ReceiverState → ReceiverMode → Row ReceiverState
get s (Rcvd id b) = silent (record s { mode = with_rest id b.rest }) (reply.Got b.first)
get s Down = silent s reply.Down
get s _ = silent s reply.Nothing

-- the packet of the mode is emitted
abbrev pub resend : ReceiverState → ReceiverMode → Row ReceiverState
resend s (Accept jd id) = emitting s (packet.Accept jd id)
resend s (Ack id) = emitting s (packet.Ack id true)
resend s _ = quietly s

-- all was forgotten
abbrev pub recover : ReceiverState → ReceiverMode → Row ReceiverState
recover s Down = quietly (record s { mode = Idle })
recover s _ = quietly s

-- the table
abbrev pub row : ReceiverState → Act → Row ReceiverState
row s (act.Put m) = unknown s
row s act.Get = get s s.mode
row s act.Ack = unknown s
row s (act.Start word) = unknown s
row s (act.Batch word) = unknown s
row s act.Resend = resend s s.mode
row s (act.Deliver p word) = deliver s p.body word
row s act.Crash = quietly (record s { mode = Down })
row s act.Recover = recover s s.mode

-- the word that a delivery uses up: a needuid that finds the receiver at rest is accepted under it
abbrev pub accepted_word : ReceiverMode → OwnedBody → ℕ → Option ℕ
accepted_word Idle (packet.NeedUid jd) word = Some word
accepted_word _ _ word = None

-- the word that an act uses up: of a needuid that finds the receiver at rest
abbrev pub used_word : ReceiverState → Act → Option ℕ
used_word s (act.Deliver p word) = accepted_word s.mode p.body word
used_word s _ = None

-- the receiver accepts sends under this identifier
abbrev pub is_accepting : ReceiverMode → ℕ → Bool
is_accepting (Accept jd accepted) id = accepted == id
is_accepting _ id = false

-- the receiver holds messages that were sent under this identifier
abbrev pub is_holding : ReceiverMode → ℕ → Bool
is_holding (Rcvd under b) id = under == id
is_holding _ id = false

-- the receiver's client got all messages that were sent under this identifier
abbrev pub is_acking : ReceiverMode → ℕ → Bool
is_acking (Ack under) id = under == id
is_acking _ id = false

-- the messages that the receiver holds for its client
abbrev pub held_by : ReceiverMode → List (List ℕ)
held_by (Rcvd id b) = messages b
held_by _ = []
