-- Journals of both versions: numbered events, a line each, and the bytes that spell them. One table says which acts a side has, one which
-- replies an act has.
use Rattle.std.specs.Prelude.{◌≡◌, ◌≢◌, ℕ, ◌+◌, ◌<◌, ◌≤◌, ◌^◌, Option, Some, None, List, [], ◌∷◌, ◌++◌, length, codes}
use Rattle.std.specs.List.{AllByRecursion}
use Rattle.std.specs.Fmt.{decimal}
use Rattle.hex.specs.Hex.{IsBytes}
use Rattle.amo_object.specs.declared.step.End.{End}
use Rattle.amo_object.specs.declared.step.End.TheVariants.{Sender, Receiver}
use Rattle.amo_packet.specs.declared.packet.OwnedPacket.{OwnedPacket}
use Rattle.amo_packet.specs.Grammar.{spelling, messages_of, version_of, IsSpellable}
use Rattle.amo_packet.specs.Stream.{IsStream}
use Rattle.amo_core.specs.declared.act.Act.{Act}
use Rattle.amo_core.specs.declared.act.Act.TheVariants as act
use Rattle.amo_core.specs.declared.reply.Reply.{Reply}
use Rattle.amo_core.specs.declared.reply.Reply.TheVariants as reply
use Rattle.amo_text.specs.Hexadecimal.{hex}
use Rattle.amo_text.specs.Line.{text_of, line_of}
use Rattle.amo_text.specs.Items.{SpellsItems}
use Rattle.amo_text.specs.Items as items
use Rattle.amo_text.specs.Message.{IsMessage}
use Rattle.amo_text.specs.Reply.{reply_fields}
use Rattle.amo_text.specs.Side.{letter_of}
use Rattle.amo_world.specs.declared.event.Event.{Event}
use Rattle.amo_journal.specs.declared.numbered.Numbered.{Numbered}
use Rattle.amo_journal.specs.declared.version.Version.{Version}
use Rattle.amo_journal.specs.Version.{lines_before, newest, HasBatches, Opens}

-- the fields of an act
abbrev pub act_fields : Act → List (List ℕ)
act_fields (act.Put m) = codes "put" ∷ hex m ∷ []
act_fields act.Ack = codes "ack" ∷ []
act_fields act.Get = codes "get" ∷ []
act_fields (act.Start word) = codes "start" ∷ decimal word ∷ []
act_fields (act.Batch word) = codes "batch" ∷ decimal word ∷ []
act_fields act.Resend = codes "resend" ∷ []
act_fields (act.Deliver packet word) = codes "deliver" ∷ hex (spelling packet) ∷ decimal word ∷ []
act_fields act.Crash = codes "crash" ∷ []
act_fields act.Recover = codes "recover" ∷ []

-- what a field of HEX spells as a packet of a stream
pub record IsPacketOf (version : Version) (number : ℕ) (packet : OwnedPacket) : Type 0 where
  pub version_is : version_of packet.body ≤ newest version
  pub spellable : IsSpellable packet
  pub bytes : AllByRecursion IsBytes (messages_of packet.body)
  pub stream : packet.stream ≡ number

-- the acts of a side of a stream
abbrev pub HasAct : Version → End → ℕ → Act → Type 0
HasAct version Sender stream (act.Put m) = IsMessage m
HasAct version Sender stream act.Ack = Unit {0}
HasAct version Receiver stream act.Get = Unit {0}
HasAct version Sender stream (act.Start word) = word < 2 ^ 64
HasAct version Sender stream (act.Batch word) = HasBatches version × (word < 2 ^ 64)
HasAct version side stream act.Resend = Unit {0}
HasAct version side stream (act.Deliver packet word) = IsPacketOf version stream packet × (word < 2 ^ 64)
HasAct version side stream act.Crash = Unit {0}
HasAct version side stream act.Recover = Unit {0}
HasAct version side stream _ = ⊥

-- the act tells of a batch: it starts one, or delivers one
abbrev pub TellsOfBatch : Act → Type 0
TellsOfBatch (act.Batch word) = Unit {0}
TellsOfBatch (act.Deliver packet word) = version_of packet.body ≡ 2
TellsOfBatch _ = ⊥

-- the replies of an act
abbrev pub HasReply : Act → Reply → Type 0
HasReply (act.Put m) reply.Ok = Unit {0}
HasReply (act.Put m) reply.Full = Unit {0}
HasReply (act.Put m) reply.Down = Unit {0}
HasReply act.Ack reply.Yes = Unit {0}
HasReply act.Ack reply.No = Unit {0}
HasReply act.Ack reply.NotYet = Unit {0}
HasReply act.Ack reply.Down = Unit {0}
HasReply act.Get (reply.Got m) = IsMessage m
HasReply act.Get reply.Nothing = Unit {0}
HasReply act.Get reply.Down = Unit {0}
HasReply (act.Start word) reply.Done = Unit {0}
HasReply (act.Batch word) reply.Done = Unit {0}
HasReply act.Resend reply.Done = Unit {0}
HasReply (act.Deliver packet word) reply.Done = Unit {0}
HasReply act.Crash reply.Done = Unit {0}
HasReply act.Recover reply.Done = Unit {0}
HasReply _ _ = ⊥

-- the event has a line
pub record CanSpell (version : Version) (e : Event) : Type 0 where
  pub pass : e.pass < 64
  pub stream : IsStream e.stream
  pub act : HasAct version e.side e.stream e.act
  pub reply : HasReply e.act e.reply

-- the lines that there are
abbrev pub InRange : Version → Numbered → Type 0
InRange version line = (line.number < 2 ^ 64) × CanSpell version line.event

-- the fields of an event
abbrev pub event_fields : Event → List (List ℕ)
event_fields e = decimal e.pass ∷ letter_of e.side ∷ decimal e.stream ∷ act_fields e.act ++ reply_fields e.reply

-- the fields of a line
abbrev pub fields_of : Numbered → List (List ℕ)
fields_of line = decimal line.number ∷ event_fields line.event

-- a line, with its end
abbrev pub line_text : Numbered → List ℕ
line_text line = line_of (fields_of line)

-- the bytes are these lines, whatever their numbers
abbrev pub SpellsLines : Version → List ℕ → List Numbered → Type 0
SpellsLines version bytes lines = SpellsItems fields_of (InRange version) bytes lines

-- the text is that of this event, on a line without its number, or of none
abbrev pub ReadsAsEvent : Version → List ℕ → Option Event → Type 0
ReadsAsEvent version text (Some e) = CanSpell version e × (text ≡ text_of (event_fields e))
ReadsAsEvent version text None = (e : Event) → CanSpell version e → text ≢ text_of (event_fields e)

-- the text is that of this line, without its end, or of none
abbrev pub ReadsAsLine : Version → List ℕ → Option Numbered → Type 0
ReadsAsLine version text (Some line) = InRange version line × (text ≡ text_of (fields_of line))
ReadsAsLine version text None = (line : Numbered) → InRange version line → text ≢ text_of (fields_of line)

-- events with their numbers, from this one on
abbrev pub numbered : ℕ → List Event → List Numbered
numbered n [] = []
numbered n (e ∷ events) = record { number = n; event = e } ∷ numbered (n + 1) events

-- the bytes are the lines of these events, in the order of time, numbered from 0
abbrev pub AreEvents : Version → List Event → List ℕ → Type 0
AreEvents version events bytes = SpellsLines version bytes (numbered 0 events)

-- the bytes are the journal of these events, in the order of time
pub record IsJournalOf (version : Version) (events : List Event) (bytes : List ℕ) : Type 0 where
  pub body : List ℕ
  pub opens : Opens version body bytes
  pub lines : AreEvents version events body

abbrev pub IsJournal : List Event → List ℕ → Type 0
IsJournal events bytes = (version : Version) × IsJournalOf version events bytes

-- of the lines behind the heading this holds, and of a place among them; counted from the file's first line, the place is this one
pub record AtLine (Holds : Version → List ℕ → ℕ → Type 0) (bytes : List ℕ) (at : ℕ) : Type 0 where
  pub version : Version
  pub body : List ℕ
  pub place : ℕ
  pub opens : Opens version body bytes
  pub holds : Holds version body place
  pub at_is : at ≡ place + lines_before version

-- of lines behind a heading this one, counted from 1, is the first that is malformed
abbrev pub HasMalformed : Version → List ℕ → ℕ → Type 0
HasMalformed version body place = items.IsMalformedAt fields_of (InRange version) body place

-- this line, counted from 1, is the first that is malformed
abbrev pub IsMalformedAt : List ℕ → ℕ → Type 0
IsMalformedAt bytes at = AtLine HasMalformed bytes at

-- of lines, this one, counted from 1, is the first whose number is not how many are before it
pub record IsGapAt (lines : List Numbered) (at : ℕ) : Type 0 where
  pub before : List Event
  pub line : Numbered
  pub after : List Numbered
  pub whole : lines ≡ numbered 0 before ++ line ∷ after
  pub other : line.number ≢ length before
  pub count : at ≡ length before + 1

-- each of the lines behind a heading reads, and this one, counted from 1, has the first number that is not how many are before it
abbrev pub HasGap : Version → List ℕ → ℕ → Type 0
HasGap version body place = (lines : List Numbered) × SpellsLines version body lines × IsGapAt lines place

-- each line reads, and this one, counted from 1, has the first number that is not how many events are before it
abbrev pub HasGapAt : List ℕ → ℕ → Type 0
HasGapAt bytes at = AtLine HasGap bytes at
