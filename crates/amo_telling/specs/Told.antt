-- What is told of the puts of one journal, where outcomes are listed stream by stream, as it is made.
use Rattle.std.specs.Prelude.{◌≡◌, ℕ, ◌+◌, ◌-◌, ◌<◌, Option, Some, None, List, [], ◌∷◌, ◌++◌, length, map, reverse, take, slice_get, slice_index_or}
use Rattle.std.specs.Option.{option_map}
use Rattle.amo_core.specs.declared.act.Act.{Act}
use Rattle.amo_core.specs.declared.act.Act.TheVariants as act
use Rattle.amo_core.specs.declared.reply.Reply.{Reply}
use Rattle.amo_core.specs.declared.reply.Reply.TheVariants as reply
use Rattle.amo_world.specs.declared.event.Event.{Event}
use Rattle.amo_world.specs.History.{IsRight}
use Rattle.amo_outcomes.specs.declared.outcome.Outcome.{Outcome}
use Rattle.amo_outcomes.specs.Puts.{puts_after}
use Rattle.amo_journal.specs.declared.lines.Lines.{Lines}
use Rattle.amo_journal.specs.declared.version.Version.{Version}
use Rattle.amo_journal.specs.Journal.{InRange, fields_of}
use Rattle.amo_journal.specs.Lines.{Tell}
use Rattle.amo_journal.specs.Version.{lines_before}
use Rattle.amo_text.specs.Line.{Lacks, text_of}
use Rattle.amo_audit.specs.declared.reach.Reach.{Reach}
use Rattle.amo_audit.specs.declared.reach.Reach.TheVariants.{First, Second}
use Rattle.amo_telling.specs.declared.listing.Listing.{Listing}
use Rattle.amo_telling.specs.declared.listing.Listing.TheVariants.{OfBoth, OfSender, Known}
use Rattle.amo_telling.specs.declared.put_outcome.PutOutcome.{PutOutcome}
use Rattle.amo_telling.specs.declared.put_outcome.PutOutcome.TheVariants.{ByBoth, BySender}
use Rattle.amo_telling.specs.Outcomes.{IsToldFurther, Manner, line_if, puts_in}

-- what is listed of a put of a stream, if it is
abbrev pub in_list : {A : Type 0} → Option (List A) → ℕ → Option A
in_list None put = None
in_list (Some told) put = slice_get told put

-- what is told of a put of the stream of a place, if it is listed
abbrev pub at_place : Listing → ℕ → ℕ → Option PutOutcome
at_place (OfBoth all) place put = option_map ByBoth (in_list (slice_get (map (λ told. told.items) all.now) place) put)
at_place (OfSender all) place put = option_map BySender (in_list (slice_get (map (λ told. told.items) all.now) place) put)
at_place (Known all) place put = in_list (slice_get (map (λ told. told.items) all.now) place) put

-- the line of a put, if something is told of it
abbrev pub listed_line : Manner → ℕ → ℕ → List ℕ → Option PutOutcome → List ℕ
listed_line choice number stream m None = []
listed_line choice number stream m (Some outcome) = line_if choice number stream m outcome

abbrev pub reply_line : Manner → Listing → ℕ → ℕ → ℕ → Act → Reply → List ℕ
reply_line choice listing number put stream (act.Put m) reply.Ok = listed_line choice number stream m (at_place listing (stream - 1) put)
reply_line choice listing number put stream _ _ = []

-- what is written of an event behind others of its journal, the newest of which is the first
abbrev pub event_line : Manner → Listing → List Event → Event → List ℕ
event_line choice listing before e = reply_line choice listing (length before) (puts_in e.stream before) e.stream e.act e.reply

-- and of events in the order of time
abbrev pub told_text : Manner → Listing → List Event → List Event → List ℕ
told_text choice listing before [] = []
told_text choice listing before (e ∷ events) = event_line choice listing before e ++ told_text choice listing (e ∷ before) events

-- how many puts each stream took
pub record Counts (counts : List ℕ) (before : List Event) : Type 0 where
  pub each : length counts ≡ 256
  pub puts : (place : ℕ) → place < 256 → slice_index_or counts place 0 ≡ puts_in (place + 1) before

-- what was told of events in the order of time
pub record HasTold (choice : Manner) (listing : Listing) (counts text : List ℕ) (events : List Event) : Type 0 where
  pub counted : Counts counts (reverse events)
  pub written : text ≡ told_text choice listing [] events

-- the events of a journal, or those of the lines in front of one that is counted from the file's first
abbrev pub front_of : Option ℕ → Version → List Event → List Event
front_of None version events = events
front_of (Some line) version events = take (line - (1 + lines_before version)) events

-- how many lines of a journal stand in front of that one; without one all do, which are fewer
abbrev pub end_of : Option ℕ → Version → ℕ
end_of None version = 18446744073709551615
end_of (Some line) version = line - (1 + lines_before version)

-- the text is that of the line of this number and this event
abbrev pub IsLineOf : Version → ℕ → Event → List ℕ → Type 0
IsLineOf version number e text = InRange version (record { number = number; event = e }) × (text ≡ text_of (fields_of (record { number = number; event = e })))

-- this stands behind four fields of a text
abbrev pub StandsBehind : List ℕ → List ℕ → Type 0
StandsBehind text more = (a : List ℕ) × (b : List ℕ) × (c : List ℕ) × (d : List ℕ) × Lacks 32 a × Lacks 32 b × Lacks 32 c × Lacks 32 d
    × (text ≡ a ++ 32 ∷ (b ++ 32 ∷ (c ++ 32 ∷ (d ++ 32 ∷ more))))

-- the line at which what was judged of the first, or of the second, ends, if it does
abbrev pub first_ends : Reach → Option ℕ
first_ends (First line) = Some line
first_ends _ = None

abbrev pub second_ends : Reach → Option ℕ
second_ends (Second line) = Some line
second_ends _ = None

-- by the sender's own history, this is told of the first so many puts of a stream, which became this of by both sides
pub record AreToldFurther (own : List Event) (stream : ℕ) (outcomes : List Outcome) (many : ℕ) (told : List PutOutcome) : Type 0 where
  pub count : length told ≡ many
  pub each : (put : ℕ) (known : PutOutcome) → slice_get told put ≡ Some known
      → (outcome : Outcome) × (slice_get outcomes put ≡ Some outcome) × (put < (puts_after stream own).count → IsToldFurther own stream put outcome known)

-- and of all those of the first so many streams, that of stream 1 first
pub record StreamsToldFurther (own : List Event) (all : List (List Outcome)) (many : ℕ) (listed : List (List PutOutcome)) : Type 0 where
  pub count : length listed ≡ many
  pub each : (place : ℕ) (told : List PutOutcome) → slice_get listed place ≡ Some told
      → (outcomes : List Outcome) × (slice_get all place ≡ Some outcomes) × AreToldFurther own (place + 1) outcomes (length outcomes) told

-- what is listed of the puts of a journal of these events: of one that goes on behind the line where what was judged ends, more
abbrev pub Lists : Option ℕ → List (List Outcome) → List Event → Listing → Type 0
Lists None all events (OfBoth listed) = map (λ told. told.items) listed.now ≡ all
Lists (Some line) all events (Known listed) = IsRight (reverse events) → StreamsToldFurther (reverse events) all 256 (map (λ told. told.items) listed.now)
Lists _ all events _ = ⊥

-- the text tells of the puts of a journal as they are listed, to that line
abbrev pub TellsOne : Option ℕ → Manner → List (List Outcome) → Lines → List ℕ → Type 0
TellsOne ends manner all lines text = (events : List Event) × (listing : Listing) × Tell events lines × Lists ends all events listing
    × (text ≡ told_text manner listing [] (front_of ends lines.version events))
