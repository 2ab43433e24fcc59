-- What clients are shown.
use Rattle.std.specs.Prelude.{◌≡◌, ◌≢◌, ◌⊎◌, ℕ, zero, suc, Bool, true, false, if◌then◌else◌, Option, List, [], ◌∷◌, ◌++◌, ◌-◌, length}
use Rattle.std.specs.List.{flat_map}
use Rattle.std.specs.Io.KnownBytes.{Appends}
use Rattle.amo_core.specs.declared.act.Act.{Act}
use Rattle.amo_core.specs.declared.act.Act.TheVariants.{Put, Get, Ack, Deliver}
use Rattle.amo_core.specs.declared.payload.Payload.{Payload}
use Rattle.amo_core.specs.declared.mode.Mode.TheVariants as mode
use Rattle.amo_core.specs.declared.sender.SenderMode.TheVariants.{Send}
use Rattle.amo_core.specs.declared.summary.Summary.{Summary}
use Rattle.amo_core.specs.Sender as sender
use Rattle.amo_core.specs.declared.reply.Reply.{Reply}
use Rattle.amo_core.specs.declared.reply.Reply.TheVariants.{Ok, Got, Yes, No}
use Rattle.amo_packet.specs.declared.packet.OwnedPacket.{OwnedPacket}
use Rattle.amo_packet.specs.declared.packet.OwnedBody.{OwnedBody}
use Rattle.amo_packet.specs.declared.packet.OwnedBody.TheVariants as packet
use Rattle.amo_world.specs.declared.event.Event.{Event}
use Rattle.amo_world.specs.History.{Extends, stream_after}
use Rattle.amo_book.specs.Pass.{PassState, mine}
use Rattle.amo_lines.specs.declared.lines.Spelling.{Spelling}
use Rattle.amo_lines.specs.declared.lines.Word.{Word}
use Rattle.amo_lines.specs.declared.lines.Word.TheVariants as word
use Rattle.amo_lines.specs.Object.{Name}
use Rattle.amo_live.specs.declared.service.door.Settled.{Settled}
use Rattle.amo_lines.specs.Owed.{Owed, answered, first_id, owing}
use Rattle.amo_lines.specs.Spelt.{Refused, message_line, ok_line, refused_line, settled_line, word_line, word_of}

-- what is to be shown to clients, and the ids that answers to come will have
pub record Told : Type 0 where
  pub text : List ℕ
  pub owed : Owed

-- this line more is shown
abbrev pub told_line : List ℕ → Told → Told
told_line line told = record told { text = told.text ++ line }

-- a message with this id was put on a stream by this line of the journal: so it is told, and, where lines are objects, its answer to come will have the id
abbrev pub told_put : Spelling → ℕ → Name → ℕ → Told → Told
told_put spelling stream id line told = record { text = told.text ++ ok_line spelling stream id line; owed = if spelling.json then owing stream id told.owed else told.owed }

-- a stream's first message that has no answer has this one
abbrev pub told_answer : Spelling → ℕ → Word → Told → Told
told_answer spelling stream w told = record { text = told.text ++ word_line spelling stream (first_id stream told.owed) w; owed = answered stream told.owed }

-- and so have so many
abbrev pub told_answers : Spelling → ℕ → Word → ℕ → Told → Told
told_answers spelling stream w zero told = told
told_answers spelling stream w (suc n) told = told_answer spelling stream w (told_answers spelling stream w n told)

-- a line of a client was refused
abbrev pub told_refused : Refused → Told → Told
told_refused refused told = told_line (refused_line refused) told

-- some were
abbrev pub IsRefusing : Told → Told → Type 0
IsRefusing old new = (refused : List Refused) × (new ≡ told_line (flat_map refused_line refused) old)

-- what is told of an act: nothing; that a message was put; a message that was got; what became of one
pub data Said : Type 0 where
  says_nothing : Said
  says_put : Said
  says_message : List ℕ → Said
  says_answer : Word → Said

-- what is told of an act with a reply
abbrev pub said_of : Act → Reply → Said
said_of (Put m) Ok = says_put
said_of Get (Got m) = says_message m
said_of Ack Yes = says_answer word.Yes
said_of Ack No = says_answer word.No
said_of _ _ = says_nothing

-- It is told so: of a put and of a get by some line of the journal, of a put with the id that it came with, and of an answer with the id of the stream's first message that had
-- none.
abbrev pub Says : Spelling → ℕ → Said → Told → Told → Type 0
Says spelling stream says_nothing old new = new ≡ old
Says spelling stream says_put old new = (id : Name) × (line : ℕ) × (new ≡ told_put spelling stream id line old)
Says spelling stream (says_message m) old new = (line : ℕ) × (new ≡ told_line (message_line spelling stream line m) old)
Says spelling stream (says_answer w) old new = new ≡ told_answer spelling stream w old

-- what a packet tells of so many messages: an ack what it says of them, a line for each; any other nothing
abbrev pub told_ack : Spelling → ℕ → OwnedBody → ℕ → Told → Told
told_ack spelling stream (packet.Ack id got) messages told = told_answers spelling stream (word_of got) messages told
told_ack spelling stream _ messages told = told

-- it is told that what became of a stream's earlier messages is settled, or it is not
abbrev pub told_settled : Bool → Spelling → ℕ → Told → Told
told_settled true spelling stream told = told_line (settled_line spelling stream) told
told_settled false spelling stream told = told

-- In what was seen an event brought the sender of its stream to send messages under an identifier, for which it had asked: whatever was sent there before is
-- got by now, or never.
pub record BeginsToSend (seen : List Event) (e : Event) : Type 0 where
  pub past : List Event
  pub stands : Extends seen (e ∷ past)
  pub asked : sender.kind (stream_after e.stream past).sender.state.mode ≡ mode.NeedId
  pub sends : sender.kind (stream_after e.stream (e ∷ past)).sender.state.mode ≡ mode.Send

-- Of how many messages an ack tells that ends the handshake in which so many travel, with so many behind them: of all, but for the stream's last one, whose
-- answer a call asks for.
abbrev pub told_behind : ℕ → ℕ → ℕ
told_behind travelling zero = travelling - 1
told_behind travelling (suc waiting) = travelling

-- the same of a sender that stands so, and of what is noted of the end
abbrev pub told_at : Summary → ℕ
told_at summary = told_behind summary.held summary.waiting

abbrev pub told_in : Settled → ℕ
told_in end = end.messages - (if end.is_last then 1 else 0)

-- In what was seen an event delivered this packet, which is an ack that ended a handshake: after all that happened before, the sender of its stream sent
-- messages under the identifier that the ack names, and of so many of them it tells.
pub record EndsHandshake (seen : List Event) (e : Event) (body : OwnedBody) (messages : ℕ) : Type 0 where
  pub past : List Event
  pub stands : Extends seen (e ∷ past)
  pub id : ℕ
  pub got : Bool
  pub says : body ≡ packet.Ack id got
  pub load : Payload
  pub sent : (stream_after e.stream past).sender.state.mode ≡ Send id load
  pub tells : messages ≡ told_behind (length (sender.messages_in load)) (length (stream_after e.stream past).sender.state.waiting)

-- A packet was delivered that settled what became of earlier messages, or told of messages: it brought the sender to send, if it is told that it settled any,
-- and ended the handshake of those that it told of.
pub record TellsDelivery (seen : List Event) (spelling : Spelling) (e : Event) (old new : Told) : Type 0 where
  pub packet : OwnedPacket
  pub word : ℕ
  pub delivered : e.act ≡ Deliver packet word
  pub settles : Bool
  pub messages : ℕ
  pub lines : new ≡ told_ack spelling e.stream packet.body messages (told_settled settles spelling e.stream old)
  pub begins : settles ≡ true → BeginsToSend seen e
  pub ends : messages ≢ 0 → EndsHandshake seen e packet.body messages

-- what an event tells: what its reply does, or a packet that was delivered
abbrev pub Tells : List Event → Spelling → Event → Told → Told → Type 0
Tells seen spelling e old new = Says spelling e.stream (said_of e.act e.reply) old new ⊎ TellsDelivery seen spelling e old new

-- what events tell, newest first, in the order in which they happened, and between them which lines were refused
abbrev pub Shows : List Event → Spelling → List Event → Told → Told → Type 0
Shows seen spelling [] old new = IsRefusing old new
Shows seen spelling (e ∷ past) old new = (before : Told) × (after : Told) × Shows seen spelling past old before × Tells seen spelling e before after × IsRefusing after new

-- between two states of a pass, which has seen more since, what its events tell was added to what was shown, and nothing else but lines that were refused
pub record ShowsMore (spelling : Spelling) (v w : PassState) (old new : Told) : Type 0 where
  pub events : List Event
  pub mine_is : mine w ≡ events ++ mine v
  pub extends : Extends w.seen v.seen
  pub shows : Shows w.seen spelling events old new

-- behind what was shown before
abbrev pub behind : List ℕ → Told → Told
behind front told = record told { text = front ++ told.text }

-- Between two states of a pass a client was shown some of what was to be shown: what it was shown, and then what is to be shown now, is what was to be
-- shown before and what the events show.
pub record IsShown (spelling : Spelling) (v w : PassState) (old new : Told) (before after : Option (List ℕ)) : Type 0 where
  pub written : List ℕ
  pub appends : Appends before after written
  pub shows : ShowsMore spelling v w old (behind written new)

-- what is told begins with the put of a message that has this id, by this line of the journal
abbrev pub BeginsWithPut : Spelling → ℕ → Name → ℕ → Told → Told → Type 0
BeginsWithPut spelling stream id line old new = (more : List ℕ) × (new.text ≡ old.text ++ (ok_line spelling stream id line ++ more))
