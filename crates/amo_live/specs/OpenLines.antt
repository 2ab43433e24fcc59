-- The lines of a sender's journal that tell of messages without an answer, by its history.
use Rattle.std.specs.Prelude.{◌≡◌, ℕ, zero, suc, ◌+◌, ◌-◌, ◌<◌, ◌==◌, Bool, true, false, if◌then◌else◌, None, Some, List, [], ◌∷◌, ◌++◌, get_or, length, map, reverse, take}
use Rattle.std.specs.List.{filter, flat_map}
use Rattle.amo_object.specs.declared.step.End.{End}
use Rattle.amo_object.specs.declared.step.End.TheVariants.{Sender, Receiver}
use Rattle.amo_core.specs.declared.act.Act.{Act}
use Rattle.amo_core.specs.declared.act.Act.TheVariants as act
use Rattle.amo_core.specs.declared.reply.Reply.{Reply}
use Rattle.amo_core.specs.declared.reply.Reply.TheVariants as reply
use Rattle.amo_core.specs.declared.sender.SenderMode.{SenderMode}
use Rattle.amo_core.specs.declared.sender.SenderMode.TheVariants as sending
use Rattle.amo_core.specs.Sender as sender
use Rattle.amo_world.specs.declared.event.Event.{Event}
use Rattle.amo_world.specs.Stream.{Stream}
use Rattle.amo_world.specs.History.{Extends, stream_after}
use Rattle.amo_book.specs.Pass.{Answer}
use Rattle.amo_journal.specs.declared.numbered.Numbered.{Numbered}
use Rattle.amo_journal.specs.Journal.{line_text}
use Rattle.amo_live.specs.declared.stream_lines.Kind.{Kind}
use Rattle.amo_live.specs.declared.stream_lines.Kind.TheVariants as kind
use Rattle.amo_live.specs.Unanswered.{Kept, KeptLines, keeping}

-- a put that was taken
abbrev pub is_ok : Reply → Bool
is_ok reply.Ok = true
is_ok _ = false

abbrev pub takes : Act → Reply → Bool
takes (act.Put m) answer = is_ok answer
takes _ answer = false

abbrev pub is_taken : Numbered → Bool
is_taken line = takes line.event.act line.event.reply

-- the newest lines stand first; those of puts, but for so many of the oldest
abbrev pub later_puts : ℕ → List Numbered → List Numbered
later_puts many lines = take (length (filter is_taken lines) - many) (filter is_taken lines)

-- The lines of the puts, of the start of the open handshake and of its accept, by the sender's mode before an event and behind it: that of what begins a
-- handshake is one more, and that of its accept. Where it ends those of its puts are left out, which are the oldest, and so is how it went. A crash forgets
-- all. Else that of a put that is taken is one more.
abbrev pub opened_by : SenderMode → SenderMode → Numbered → List Numbered → List Numbered
opened_by (sending.Quiet got) (sending.NeedId word load) line lines = line ∷ lines
opened_by (sending.NeedId word load) (sending.Send id sent) line lines = line ∷ lines
opened_by (sending.Send id load) (sending.Quiet got) line lines = later_puts (length (sender.messages_in load)) lines
opened_by _ sending.Down line lines = []
opened_by _ _ line lines = if is_taken line then (line ∷ lines) else lines

abbrev pub opened_at : End → Stream → Numbered → List Numbered → List Numbered
opened_at Sender s line lines = opened_by s.sender.state.mode (sender.row s.sender.state line.event.act).state.mode line lines
opened_at Receiver s line lines = lines

abbrev pub opened_if : Bool → Stream → Numbered → List Numbered → List Numbered
opened_if true s line lines = opened_at line.event.side s line lines
opened_if false s line lines = lines

-- The line of the event behind these, in a journal in which the first line to come had this number when it was opened, and the lines of so many events
-- stood in front of that.
abbrev pub line_behind : ℕ → ℕ → List Event → Event → Numbered
line_behind first standing past e = record { number = first + length past - standing; event = e }

-- the open lines of a stream's sender after a history, the newest first
abbrev pub open_lines : ℕ → ℕ → ℕ → List Event → List Numbered
open_lines first standing stream [] = []
open_lines first standing stream (e ∷ past) = opened_if (stream == e.stream) (stream_after stream past) (line_behind first standing past e) (open_lines first standing stream past)

-- the events of lines
abbrev pub event_of : Numbered → Event
event_of line = line.event

-- Lines, the newest first, are those of events of this history, each in its place there: the first of an event that is one of the newest, and the others of
-- events before that.
abbrev pub AreAt : ℕ → ℕ → List Event → List Numbered → Type 0
AreAt first standing history [] = Unit {0}
AreAt first standing history (line ∷ lines) = (past : List Event) × Extends history (line.event ∷ past) × (line ≡ line_behind first standing past line.event) × AreAt first standing past lines

-- a line as it is kept
abbrev pub kind_of : Bool → Kind
kind_of true = kind.Put
kind_of false = kind.Handshake

abbrev pub kept_as : Numbered → Kept
kept_as line = record { kind = kind_of (is_taken line); text = line_text line }

-- some as they are kept, oldest first
abbrev pub in_order : List Numbered → List Kept
in_order lines = map kept_as (reverse lines)

-- the text of the open lines of so many streams' senders, stream after stream and oldest first
abbrev pub open_text : ℕ → ℕ → List Event → ℕ → List ℕ
open_text first standing history zero = []
open_text first standing history (suc streams) = open_text first standing history streams ++ flat_map line_text (reverse (open_lines first standing (suc streams) history))

-- so many streams have a sender at a host of this side
abbrev pub senders_of : End → ℕ → ℕ
senders_of Sender streams = streams
senders_of Receiver streams = 0

-- A host of this side of so many streams keeps, of each stream that has its sender there, the open lines after this history, in the order in which they were
-- written.
pub record KeepsOpen (side : End) (streams first standing : ℕ) (history : List Event) (kept : KeptLines) : Type 0 where
  pub many : length kept ≡ senders_of side streams
  pub lines : (place : ℕ) → place < length kept → get_or kept place [] ≡ in_order (open_lines first standing (suc place) history)

-- the line of a put is kept where the put was taken
abbrev pub with_put : Answer → ℕ → List ℕ → KeptLines → KeptLines
with_put None stream line kept = kept
with_put (Some (answer, position)) stream line kept = if is_ok answer then keeping stream (record { kind = kind.Put; text = line }) kept else kept
