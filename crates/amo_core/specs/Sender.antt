-- The table of a sender.
use Rattle.std.specs.Prelude.{ℕ, ◌==◌, ◌-◌, Bool, true, false, if◌then◌else◌, List, [], ◌∷◌, ◌++◌, length, take, drop, Option, Some, None}
use Rattle.std.specs.Option.{option_map}
use Rattle.amo_packet.specs.declared.packet.OwnedPacket.{OwnedPacket}
use Rattle.amo_packet.specs.declared.packet.OwnedBody.{OwnedBody}
use Rattle.amo_packet.specs.declared.packet.OwnedBody.TheVariants as packet
use Rattle.amo_packet.specs.Batch.{Batch, max_batch, messages}
use Rattle.amo_core.specs.declared.act.Act.{Act}
use Rattle.amo_core.specs.declared.act.Act.TheVariants as act
use Rattle.amo_core.specs.declared.reply.Reply.TheVariants as reply
use Rattle.amo_core.specs.declared.mode.Mode.{Mode}
use Rattle.amo_core.specs.declared.mode.Mode.TheVariants as kind_of
use Rattle.amo_core.specs.declared.payload.Payload.{Payload}
use Rattle.amo_core.specs.declared.payload.Payload.TheVariants as payload
use Rattle.amo_core.specs.declared.sender.SenderMode.{SenderMode}
use Rattle.amo_core.specs.declared.sender.SenderMode.TheVariants.{Quiet, NeedId, Send, Down}
use Rattle.amo_core.specs.Row.{Row, silent, done, unknown}
pub mod Replies

-- how many messages may wait, beside those that a handshake carries
abbrev pub max_waiting : ℕ
max_waiting = 16

-- the stream, which its packets bear; the mode; the messages that wait, the next one first
pub record SenderState : Type 0 where
  pub stream : ℕ
  pub mode : SenderMode
  pub waiting : List (List ℕ)

-- at rest, and nothing was put yet
abbrev pub initial : ℕ → SenderState
initial stream = record { stream = stream; mode = Quiet true; waiting = [] }

-- the kind of a mode
abbrev pub kind : SenderMode → Mode
kind (Quiet got) = kind_of.Quiet
kind (NeedId jd load) = kind_of.NeedId
kind (Send id load) = kind_of.Send
kind Down = kind_of.Down

-- nothing is emitted
abbrev pub quietly : SenderState → Row SenderState
quietly s = done s None

-- a packet of the sender's stream is emitted
abbrev pub emitting : SenderState → OwnedBody → Row SenderState
emitting s body = done s (Some (record { stream = s.stream; body = body }))

-- the message goes last on the waiting list, unless as many wait as may
abbrev pub put : SenderState → SenderMode → List ℕ → Row SenderState
put s Down m = silent s reply.Down
put s _ m =
    if length s.waiting == max_waiting then silent s reply.Full else silent (record s { waiting = s.waiting ++ m ∷ [] }) reply.Ok

-- what is known of the last message put
abbrev pub get_ack : SenderState → SenderMode → List (List ℕ) → Row SenderState
get_ack s Down waiting = silent s reply.Down
get_ack s (Quiet true) [] = silent s reply.Yes
get_ack s (Quiet false) [] = silent s reply.No
get_ack s _ waiting = silent s reply.NotYet

-- the messages that travel under one identifier
abbrev pub messages_in : Payload → List (List ℕ)
messages_in (payload.Message m) = m ∷ []
messages_in (payload.Batch b) = messages b

-- and the packet that carries them
abbrev pub carrying : ℕ → Payload → OwnedBody
carrying id (payload.Message m) = packet.Send id m
carrying id (payload.Batch b) = packet.Batch id b

-- a handshake begins: the sender asks under the word for an identifier for these messages, and those still wait
abbrev pub begin : SenderState → Payload → List (List ℕ) → ℕ → Row SenderState
begin s load waiting word = emitting (record s { mode = NeedId word load; waiting = waiting }) (packet.NeedUid word)

-- it begins for the first message that waits
abbrev pub start : SenderState → SenderMode → List (List ℕ) → ℕ → Row SenderState
start s (Quiet got) (m ∷ rest) word = begin s (payload.Message m) rest word
start s _ waiting word = quietly s

-- it begins for the first messages that wait, as many as a batch has at most
abbrev pub start_batch : SenderState → SenderMode → List (List ℕ) → ℕ → Row SenderState
start_batch s (Quiet got) (m ∷ rest) word =
    begin s (payload.Batch (record { first = m; rest = take (max_batch - 1) rest })) (drop (max_batch - 1) rest) word
start_batch s _ waiting word = quietly s

-- the packet of the mode is emitted
abbrev pub resend : SenderState → SenderMode → Row SenderState
resend s (NeedId jd load) = emitting s (packet.NeedUid jd)
resend s (Send id load) = emitting s (carrying id load)
resend s _ = quietly s

-- an accept: the messages are sent under the receiver's identifier, or that is cleaned up
abbrev pub accept : SenderState → SenderMode → ℕ → ℕ → Row SenderState
accept s (NeedId asked load) jd id =
    if asked == jd then emitting (record s { mode = Send id load }) (carrying id load) else emitting s (packet.Cleanup id)
accept s (Send under load) jd id = if under == id then quietly s else emitting s (packet.Cleanup id)
accept s (Quiet got) jd id = emitting s (packet.Cleanup id)
accept s Down jd id = quietly s

-- an ack that says "got" is followed by a cleanup
abbrev pub cleaning_up : SenderState → ℕ → Bool → Row SenderState
cleaning_up s id true = emitting s (packet.Cleanup id)
cleaning_up s id false = quietly s

-- an ack: the messages were got under an identifier, or that is not known to the receiver
abbrev pub ack : SenderState → SenderMode → ℕ → Bool → Row SenderState
ack s (Send under load) id got =
    if under == id then cleaning_up (record s { mode = Quiet got }) id got else cleaning_up s id got
ack s Down id got = quietly s
ack s _ id got = cleaning_up s id got

-- a delivery; one that belongs to a receiver changes nothing
abbrev pub deliver : SenderState → OwnedBody → Row SenderState
deliver s (packet.Accept jd id) = accept s s.mode jd id
deliver s (packet.Ack id got) = ack s s.mode id got
deliver s _ = quietly s

-- up again, with what was put last, if anything, forgotten: it may or may not have been got
abbrev pub recover : SenderState → SenderMode → Row SenderState
recover s Down = quietly (record s { mode = Quiet false; waiting = [] })
recover s _ = quietly s

-- the table
abbrev pub row : SenderState → Act → Row SenderState
row s (act.Put m) = put s s.mode m
row s act.Get = unknown s
row s act.Ack = get_ack s s.mode s.waiting
row s (act.Start word) = start s s.mode s.waiting word
row s (act.Batch word) = start_batch s s.mode s.waiting word
row s act.Resend = resend s s.mode
row s (act.Deliver p word) = deliver s p.body
row s act.Crash = quietly (record s { mode = Down; waiting = [] })
row s act.Recover = recover s s.mode

-- the word that an act uses up: of a start that emits a needuid
abbrev pub used_word : SenderState → Act → Option ℕ
used_word s (act.Start word) = option_map (λ p. word) (row s (act.Start word)).emitted
used_word s (act.Batch word) = option_map (λ p. word) (row s (act.Batch word)).emitted
used_word s _ = None

-- the sender asks for an identifier under this one of its own
abbrev pub is_asking : SenderMode → ℕ → Bool
is_asking (NeedId asked load) jd = asked == jd
is_asking _ jd = false

-- the sender sends under this identifier
abbrev pub is_sending : SenderMode → ℕ → Bool
is_sending (Send under load) id = under == id
is_sending _ id = false

-- the messages of the handshake that the sender is in
abbrev pub held_by : SenderMode → List (List ℕ)
held_by (NeedId jd load) = messages_in load
held_by (Send id load) = messages_in load
held_by _ = []

-- the sender is down
abbrev pub is_down : SenderMode → Bool
is_down Down = true
is_down _ = false
