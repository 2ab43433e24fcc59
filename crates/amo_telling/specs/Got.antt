-- What a receiver's journal says was got.
use Rattle.std.specs.Prelude.{◌≡◌, ◌≢◌, ◌≤◌, ℕ, ◌+◌, ◌^◌, Bool, true, false, nat_lt, if◌then◌else◌, Option, Some, None, List, [], ◌∷◌, ◌++◌, length}
use Rattle.std.specs.List.{list_any}
use Rattle.amo_object.specs.declared.step.End.{End}
use Rattle.amo_object.specs.declared.step.End.TheVariants.{Sender, Receiver}
use Rattle.amo_core.specs.declared.act.Act.{Act}
use Rattle.amo_core.specs.declared.act.Act.TheVariants as act
use Rattle.amo_core.specs.declared.reply.Reply.{Reply}
use Rattle.amo_core.specs.declared.reply.Reply.TheVariants as reply
use Rattle.amo_text.specs.Line.{Lacks}
use Rattle.amo_world.specs.declared.event.Event.{Event}
use Rattle.amo_journal.specs.declared.numbered.Numbered.{Numbered}
use Rattle.amo_journal.specs.declared.version.Version.{Version}
use Rattle.amo_journal.specs.Journal.{InRange, line_text}
use Rattle.amo_telling.specs.declared.reading.Reading.{Reading}
use Rattle.amo_telling.specs.declared.reading.Reading.TheVariants.{Whole, Malformed, Gap, OfSender, TooLong}
use Rattle.amo_telling.specs.Shown.{got_line}

-- whether lines of this number are written
abbrev pub is_after : Option ℕ → ℕ → Bool
is_after None number = true
is_after (Some least) number = nat_lt least number

-- what is written of the event of a line: that a get answered a message
abbrev pub reply_line : Option ℕ → Bool → ℕ → ℕ → Act → Reply → List ℕ
reply_line after json number stream act.Get (reply.Got m) = if is_after after number then got_line json number stream m else []
reply_line after json number stream _ _ = []

abbrev pub event_line : Option ℕ → Bool → ℕ → Event → List ℕ
event_line after json number e = reply_line after json number e.stream e.act e.reply

-- and of events in the order of time, from this number on
abbrev pub got_text : Option ℕ → Bool → ℕ → List Event → List ℕ
got_text after json number [] = []
got_text after json number (e ∷ events) = event_line after json number e ++ got_text after json (number + 1) events

-- an event at a receiver
abbrev pub is_receivers : End → Bool
is_receivers Sender = false
is_receivers Receiver = true

abbrev pub has_receivers : List Event → Bool
has_receivers events = list_any (λ e. is_receivers e.side) events

-- lines that read to their end: whose they are
abbrev pub whole_of : List Event → Reading
whole_of [] = Whole
whole_of (e ∷ events) = if has_receivers (e ∷ events) then Whole else OfSender

-- why nothing is read behind the lines of these events: nothing is left but a line without its end; or the next line is malformed, or has
-- another number; or there are more lines than are counted
abbrev pub Stops : Version → List Event → List ℕ → Reading → Type 0
Stops version events rest Whole = Lacks 10 rest × (whole_of events ≡ Whole)
Stops version events rest OfSender = Lacks 10 rest × (whole_of events ≡ OfSender)
Stops version events rest (Malformed at) = (¬ (Lacks 10 rest)) × ((line : Numbered) (more : List ℕ) → InRange version line → rest ≢ line_text line ++ more) × (at ≡ length events + 1)
Stops version events rest (Gap at) = (line : Numbered) × (more : List ℕ) × InRange version line × (rest ≡ line_text line ++ more) × (line.number ≢ length events) × (at ≡ length events + 1)
Stops version events rest TooLong = 2 ^ 64 ≤ length events + 3
