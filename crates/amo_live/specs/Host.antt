-- A live host: one side of its streams, a link, and a journal that is ahead of all that leaves.
use Rattle.std.specs.Prelude.{◌≡◌, ◌≢◌, ℕ, zero, suc, ◌-◌, min, ◌≤◌, ◌⊎◌, Bool, true, false, Option, Some, None, Result, Ok, Err, List, [], ◌∷◌, ◌++◌, length, slice_get}
use Rattle.std.specs.List.{Contains}
use Rattle.amo_object.specs.declared.step.End.{End}
use Rattle.amo_object.specs.declared.step.End.TheVariants.{Sender}
use Rattle.amo_packet.specs.declared.packet.OwnedPacket.{OwnedPacket}
use Rattle.amo_packet.specs.declared.packet.OwnedBody.{OwnedBody}
use Rattle.amo_packet.specs.declared.packet.OwnedBody.TheVariants as packet
use Rattle.amo_packet.specs.Grammar.{Spells}
use Rattle.amo_core.specs.declared.act.Act.{Act}
use Rattle.amo_core.specs.declared.act.Act.TheVariants as act
use Rattle.amo_core.specs.declared.mode.Mode.{Mode}
use Rattle.amo_core.specs.declared.reply.Reply.{Reply}
use Rattle.amo_core.specs.declared.reply.Reply.TheVariants as reply
use Rattle.amo_core.specs.declared.reply.Reply.TheVariants.{Done, Got}
use Rattle.amo_core.specs.Automaton.{mode_of, Writes}
use Rattle.amo_core.specs.Summary.{summary_of}
use Rattle.amo_world.specs.declared.event.Event.{Event}
use Rattle.amo_world.specs.Stream.{emission_of}
use Rattle.amo_world.specs.History.{IsRight, stream_after}
use Rattle.amo_book.specs.Book.{BookState}
use Rattle.amo_book.specs.Charge.{ChargeState}
use Rattle.amo_book.specs.Drive.{Driven}
use Rattle.amo_book.specs.declared.drive.Done as drive
use Rattle.amo_host.specs.AtStream.{HasMode, MayBegin}
use Rattle.amo_host.specs.Host.{Host, streams_of}
use Rattle.amo_host.specs.Station.{BelongTogether, IsStation, Station}
use Rattle.amo_host.specs.declared.fault.PumpFault.{PumpFault}
use Rattle.amo_host.specs.declared.fault.PumpFault.TheVariants as pump_fault
use Rattle.amo_host.specs.declared.turned.Turned.{Turned}
use Rattle.amo_host.specs.declared.turned.Turned.TheVariants as turned
use Rattle.amo_book.specs.Pass.{PassState, Answer, GrownBy, automaton_after, event, mine}
use Rattle.amo_journal.specs.declared.version.Version.{Version}
use Rattle.amo_journal.specs.Version.{newest}
use Rattle.amo_journal.specs.Journal.{HasAct, line_text}
use Rattle.amo_live.specs.declared.fault.LiveFault.{LiveFault}
use Rattle.amo_live.specs.declared.fault.LiveFault.TheVariants as live_fault
use Rattle.amo_live.specs.declared.given_word.GivenWord.{GivenWord}
use Rattle.amo_live.specs.Noted.{JournalState, IsSameJournal, Holds, Begins}
use Rattle.amo_live.specs.Emitted.{OutboxState, AreEmitted, OnlySees, IsRepetition, packet_in}
use Rattle.amo_live.specs.OpenLines.{KeepsOpen, open_text, senders_of}
use Rattle.amo_live.specs.Unanswered.{KeptLines}

-- the words to come where one was given, or none
abbrev pub given : Option ℕ → ℕ → Option ℕ
given word zero = word
given word (suc k) = None

-- its side, of how many streams, its book with the pass that calls and another one, and the pump that drives its streams; its link, the packets that are to
-- leave, now or again, its journal, and of each stream's sender the lines that it keeps of that
pub record HostState (L S : Type 0) : Type 0 where
  pub side : End
  pub streams : ℕ
  pub book : BookState
  pub pass : PassState
  pub other : PassState
  pub pump : Station GivenWord
  pub link : L
  pub outbox : OutboxState
  pub journal : JournalState S
  pub unanswered : KeptLines

-- this side of so many streams, from stream k on
abbrev pub sides_from : End → ℕ → ℕ → List (End × ℕ)
sides_from side k zero = []
sides_from side k (suc n) = (side, k) ∷ sides_from side (suc k) n

-- a book of two passes, of which this is the first, and has made no event
pub record IsSilent (book : BookState) (other : PassState) : Type 0 where
  pub two : book.passes ≡ 2
  pub book_is : other.book ≡ book.id
  pub number : other.number ≡ 0
  pub silent : mine other ≡ []

-- The pass and the pump's charges are the book's, which has the host's side of each of its streams; its other pass makes no event. Each packet that
-- is to leave, now or again, is one that an event of the pass emitted.
pub record IsHost {L S : Type 0} (h : HostState L S) : Type 0 where
  pub together : BelongTogether h.book h.pass h.pump
  pub station : IsStation h.pump
  pub side : h.pump.host.side ≡ h.side
  pub few : h.streams ≤ 256
  pub sides : h.book.sides ≡ sides_from h.side 1 h.streams
  pub places : length h.outbox.recent ≡ h.streams
  pub number : h.pass.number ≡ 1
  pub silent : IsSilent h.book h.other
  pub emitted : AreEmitted h.pass h.outbox

-- no call but that of `send` touches the link, and none the host's side, its streams, the book's name, or how the journal was opened
pub record Stays {L S : Type 0} (h g : HostState L S) : Type 0 where
  pub side : g.side ≡ h.side
  pub streams : g.streams ≡ h.streams
  pub book : g.book ≡ h.book
  pub number : g.pass.number ≡ h.pass.number
  pub link : g.link ≡ h.link
  pub journal : IsSameJournal h.journal g.journal

-- One event more of the host's own: this act at this side of this stream, which left it in this mode. A sender was in the mode that the host had for it
-- before. What its row emits is to leave.
pub record Happens {L S : Type 0} (h g : HostState L S) (side : End) (stream : ℕ) (a : Act) (mode : Mode) : Type 0 where
  pub grown : GrownBy h.pass g.pass (event h.pass.number side stream a Done)
  pub mode_is : mode ≡ mode_of (automaton_after side stream g.pass.seen)
  pub found : (known : Mode) → side ≡ Sender → HasMode h.pump.host stream known → mode_of (automaton_after side stream grown.earlier) ≡ known
  pub before : List ℕ
  pub buffer : List ℕ
  pub length : Option ℕ
  pub emitted : Writes (emission_of (stream_after stream grown.earlier) side a) before buffer length
  pub leaving : g.outbox.leaving ≡ h.outbox.leaving ++ packet_in buffer length

-- the events that the pass has made are all that its book has, and a right history
pub record IsWhole (v : PassState) : Type 0 where
  pub own : v.seen ≡ mine v
  pub right : IsRight v.seen

-- how many messages are of the handshake that is open on a stream, after all that the pass has seen
abbrev pub held_on : {L S : Type 0} → HostState L S → ℕ → ℕ
held_on h stream = (summary_of (automaton_after h.side stream h.pass.seen)).held

-- nothing happened
abbrev pub IsIdle : {L S : Type 0} → HostState L S → HostState L S → Type 0
IsIdle h g = (g.pass ≡ h.pass) × (g.outbox ≡ h.outbox)

-- nothing happened, though the pass may have seen what others did
abbrev pub Looked : {L S : Type 0} → HostState L S → HostState L S → Type 0
Looked h g = OnlySees h.pass g.pass × (g.outbox ≡ h.outbox)

-- An act was no event: at this side of this stream it keeps the state, and the packet that it emits, if any, was emitted before and leaves again.
pub record Repeats {L S : Type 0} (h g : HostState L S) (side : End) (stream : ℕ) (a : Act) : Type 0 where
  pub sees : OnlySees h.pass g.pass
  pub again : List (List ℕ)
  pub repetition : IsRepetition g.pass side stream a again
  pub leaving : g.outbox.leaving ≡ h.outbox.leaving ++ again
  pub recent : g.outbox.recent ≡ h.outbox.recent

-- what came of a look at an act: it is a repetition, or it may be none and nothing happened
abbrev pub Looks : {L S : Type 0} → HostState L S → HostState L S → ℕ → Act → Bool → Type 0
Looks h g stream a true = Repeats h g h.side stream a
Looks h g stream a false = Looked h g

-- what came of an act: that event, or none
abbrev pub Did : {L S : Type 0} → HostState L S → HostState L S → ℕ → Act → Option Mode → Type 0
Did h g stream a None = IsIdle h g
Did h g stream a (Some mode) = Happens h g h.side stream a mode

-- the line of this event, which is the next one, was noted last
abbrev pub NotedLast : {L S : Type 0} → HostState L S → HostState L S → Event → Type 0
NotedLast h g e = g.journal.last ≡ line_text (record { number = h.journal.next - h.journal.left; event = e })

-- what came of an act that may have been a repetition: that event, or none
abbrev pub Tried : {L S : Type 0} → HostState L S → HostState L S → ℕ → Act → Option Mode → Type 0
Tried h g stream a None = Repeats h g h.side stream a ⊎ Looked h g
Tried h g stream a (Some mode) = Happens h g h.side stream a mode

-- the word that a packet is delivered with: a needuid with this one, any other with none
abbrev pub word_for : OwnedBody → ℕ → ℕ
word_for (packet.NeedUid jd) word = word
word_for _ word = 0

-- the acts of a host; it delivers no packet with a word that it does not need
abbrev pub IsHostAct : Act → Type 0
IsHostAct (act.Put m) = ⊥
IsHostAct act.Get = ⊥
IsHostAct act.Ack = ⊥
IsHostAct (act.Deliver p word) = word ≡ word_for p.body word
IsHostAct _ = Unit {0}

-- this side of this stream has this act of a host's, and a journal of this version a line for it
abbrev pub Suits : Version → End → ℕ → Act → Type 0
Suits version side stream a = IsHostAct a × HasAct version side stream a

-- what came of an act at this stream's charge, in the mode that the pump had for it, by a call of the pump: the event, with this answer, or none
abbrev pub Drives : {W : Type 0} → Station W → PassState → PassState → List ℕ → List ℕ → ℕ → Act → Option drive.Done → Type 0
Drives s v w old new stream a None = w ≡ v
Drives s v w old new stream a (Some done) =
    (c : ChargeState) × (c.side ≡ s.host.side) × (c.stream ≡ stream) × Driven v w c (record c { mode = done.mode }) a old new done × HasMode s.host stream c.mode

-- what is made of the answer of a pump: where it had nothing to do there was no event, and where it could not do it the host cannot go on
abbrev pub done_of : Result Turned PumpFault → Result (Option drive.Done) LiveFault
done_of (Ok (turned.Did side stream kind done)) = Ok (Some done)
done_of (Ok _) = Ok None
done_of (Err pump_fault.NoMemory) = Err live_fault.NoMemory
done_of (Err _) = Err live_fault.Busy

-- a handshake begins by this act
abbrev pub is_start : Act → Bool
is_start (act.Start word) = true
is_start (act.Batch word) = true
is_start _ = false

-- none may begin on this stream: a pump has no such charge, its sender is not at rest, or no permit is free
abbrev pub MayNotBegin : Host → ℕ → Type 0
MayNotBegin h stream = (¬ (Contains (streams_of h.modes) stream)) ⊎ ((place : ℕ) × (slice_get (streams_of h.modes) place ≡ Some stream) × (¬ (MayBegin h place)))

-- nor on one of a host, which has so many, and may receive
abbrev pub MayNotStart : {L S : Type 0} → HostState L S → ℕ → Type 0
MayNotStart h stream = (h.side ≢ Sender) ⊎ ((¬ ((1 ≤ stream) × (stream ≤ h.streams))) ⊎ MayNotBegin h.pump.host stream)

-- a host of this side of so many streams: no event was made, nothing is to leave, and a handshake may be open on as many of them as a window has permits
pub record IsOpened {L S : Type 0} (side : End) (streams : ℕ) (link : L) (journal : JournalState S) (h : HostState L S) : Type 0 where
  pub side_is : h.side ≡ side
  pub streams_are : h.streams ≡ streams
  pub limit : h.pump.host.limit ≡ min streams 64
  pub sides : h.book.sides ≡ sides_from side 1 streams
  pub seen : h.pass.seen ≡ []
  pub number : h.pass.number ≡ 1
  pub link_is : h.link ≡ link
  pub outbox : h.outbox.leaving ≡ []
  pub journal_is : h.journal ≡ journal

-- the event of an act of a host's
abbrev pub done : ℕ → End → ℕ → Act → Event
done pass side stream a = event pass side stream a Done

-- the events by which these sides come back, over what was before, newest first: each of them crashed and is up again, in their order
abbrev pub comes_back : ℕ → List (End × ℕ) → List Event → List Event
comes_back pass [] past = past
comes_back pass ((side, stream) ∷ sides) past = comes_back pass sides (done pass side stream act.Recover ∷ done pass side stream act.Crash ∷ past)

-- what a host notes first over a journal of so many lines: in an empty one nothing, in one that goes on that each side came back
abbrev pub first_events : ℕ → List (End × ℕ) → ℕ → List Event
first_events pass sides zero = []
first_events pass sides (suc n) = comes_back pass sides []

-- the delivery of the packet that these bytes spell, for which the journal has a line, is no event
abbrev pub IsRepeated : {L S : Type 0} → HostState L S → HostState L S → List ℕ → ℕ → Type 0
IsRepeated h g bytes word = (p : OwnedPacket) × Spells (newest h.journal.version) bytes p × Repeats h g h.side p.stream (act.Deliver p (word_for p.body word))

-- what came of a datagram, with this word for a needuid: the packet that it spells, and for which the journal has a line, was delivered on its stream; or
-- that was a repetition, or nothing happened
abbrev pub Delivered : {L S : Type 0} → HostState L S → HostState L S → List ℕ → ℕ → Option (ℕ × Mode) → Type 0
Delivered h g bytes word None = IsRepeated h g bytes word ⊎ Looked h g
Delivered h g bytes word (Some (stream, mode)) =
    (p : OwnedPacket) × Spells (newest h.journal.version) bytes p × (p.stream ≡ stream) × Happens h g h.side stream (act.Deliver p (word_for p.body word)) mode

-- a message that a get answered, and the position of its event
abbrev pub got_at : List ℕ → ℕ → Option (List ℕ × ℕ)
got_at m position = Some (m, position)

-- what a get answered, if that is a message
abbrev pub got_in : Answer → Option (List ℕ × ℕ)
got_in (Some (Got m, position)) = got_at m position
got_in _ = None

-- the message that an event put, with its stream, if it did
abbrev pub put_by : ℕ → Act → Reply → List (ℕ × List ℕ)
put_by stream (act.Put m) reply.Ok = (stream, m) ∷ []
put_by _ _ _ = []

-- the messages that were put, each with its stream; newest first
abbrev pub puts_in : List Event → List (ℕ × List ℕ)
puts_in [] = []
puts_in (e ∷ past) = put_by e.stream e.act e.reply ++ puts_in past

-- a message was put on a stream, once; or it came back, and nothing was put
abbrev pub Puts : PassState → PassState → ℕ → List ℕ → Option (List ℕ) → Type 0
Puts v w stream message None = puts_in (mine w) ≡ (stream, message) ∷ puts_in (mine v)
Puts v w stream message (Some m) = (m ≡ message) × (puts_in (mine w) ≡ puts_in (mine v))

-- the text of the open lines of a host's streams: as they stand in its journal, in which each event of its own has its line
abbrev pub open_text_of : {L S : Type 0} → HostState L S → List ℕ
open_text_of h = open_text h.journal.first h.journal.standing (mine h.pass) (senders_of h.side h.streams)

-- given what sinks were written
module _ {L S : Type 0} (written : S → Option (List ℕ)) where
  -- the journal was handed its heading, if it is new, and the line of each event that the host has made, whole and in their order
  abbrev pub HasLines : HostState L S → Type 0
  HasLines h = Holds written h.journal (mine h.pass)

  -- and of these the host keeps those that tell of messages without an answer
  abbrev pub IsNoted : HostState L S → Type 0
  IsNoted h = HasLines h × KeepsOpen h.side h.streams h.journal.first h.journal.standing (mine h.pass) h.unanswered

  -- the journal was handed a beginning of that: of what lacks nothing has left, and no call goes on from here
  abbrev pub IsBegun : HostState L S → Type 0
  IsBegun h = Begins written h.journal (mine h.pass)
