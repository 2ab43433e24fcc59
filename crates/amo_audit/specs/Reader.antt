-- The events of a journal that are read while its text comes: part by part, and piece by piece. Lists of pieces have the newest first.
use Rattle.std.specs.Prelude.{◌≡◌, ◌↔◌, ℕ, Bool, true, Option, None, Some, List, [], ◌∷◌, ◌++◌, drop, length, IfSome, IsTrue}
use Rattle.std.specs.List.{AllByRecursion, flat_map}
use Rattle.std.specs.Option.{option_to_list}
use Rattle.amo_text.specs.Line.{Lacks}
use Rattle.amo_world.specs.declared.event.Event.{Event}
use Rattle.amo_world.specs.Stream.{IsStream}
use Rattle.amo_journal.specs.declared.lines.Lines.{Lines}
use Rattle.amo_journal.specs.declared.version.Version.{Version}
use Rattle.amo_journal.specs.Version.{Opens}
use Rattle.amo_journal.specs.Journal.{line_text, numbered, InRange}
use Rattle.amo_journal.specs.Lines.{Tell}
use Rattle.amo_pieces.specs.Journal.{IsWhole}
use Rattle.amo_pieces.specs.Text.{IsTextOf}
use Rattle.amo_audit.specs.declared.event_reader.EventReader.{EventReader}
use Rattle.amo_audit.specs.declared.event_reader.NextEvent.{NextEvent}
use Rattle.amo_audit.specs.declared.event_reader.NextEvent.TheVariants.{Read}
use Rattle.amo_audit.specs.declared.journal_reader.JournalReader.{JournalReader}
use Rattle.amo_audit.specs.Audit.{AreOf}
use Rattle.amo_audit.specs.Marks.{MarksAll}
use Rattle.amo_audit.specs.Parts.{HasFirstLine}

-- a body begins with the lines of these events, and this is left
pub record AreRead (version : Version) (events : List Event) (body rest : List ℕ) : Type 0 where
  pub known : AllByRecursion (InRange version) (numbered 0 events)
  pub whole : body ≡ flat_map line_text (numbered 0 events) ++ rest

-- these events of a text were read, and this is left; or its first line has not come whole, and its version is not known
abbrev pub IsReadTo : Option Version → List ℕ → List ℕ → List Event → Type 0
IsReadTo None rest text events = (rest ≡ text) × Lacks 10 text × (events ≡ [])
IsReadTo (Some version) rest text events = HasFirstLine text × ((body : List ℕ) × Opens version body text × AreRead version events body rest)

-- this text has come, and these events of it were read
pub record HasRead (reader : EventReader) (text : List ℕ) (events : List Event) : Type 0 where
  pub read : IsReadTo reader.version (drop reader.read reader.text.items) text events
  pub count : reader.events ≡ length events
  pub whole : IsTrue reader.is_whole ↔ IsWhole text

-- the heading of what had come was read
pub record HasReadHeading (old now : EventReader) : Type 0 where
  pub version : Version
  pub body : List ℕ
  pub is : now.version ≡ Some version
  pub opens : Opens version body old.text.items
  pub left : drop now.read now.text.items ≡ body
  pub events : now.events ≡ old.events
  pub whole : now.is_whole ≡ old.is_whole

-- the event that was read, if one was
abbrev pub read_by : NextEvent → List Event
read_by (Read e) = e ∷ []
read_by _ = []

abbrev pub IsOnStream : NextEvent → Type 0
IsOnStream (Read e) = IsStream e.stream
IsOnStream _ = Unit {0}

-- whatever more comes of the newest piece stands behind the text
abbrev pub GoesOn : List (List ℕ) → List ℕ → Type 0
GoesOn [] text = ⊥
GoesOn (piece ∷ earlier) text = (more : List ℕ) → IsTextOf ((piece ++ more) ∷ earlier) (text ++ more)

-- the same pieces, with more of the newest one
abbrev pub grown : List ℕ → List (List ℕ) → List (List ℕ)
grown more [] = []
grown more (piece ∷ earlier) = (piece ++ more) ∷ earlier

-- these pieces have come, and these events of theirs were read
pub record HasCome (journal : JournalReader) (pieces : List (List ℕ)) (events : List Event) : Type 0 where
  pub text : List ℕ
  pub is_text : IsTextOf pieces text
  pub goes_on : journal.goes_on ≡ true → GoesOn pieces text
  pub read : HasRead journal.events text events
  pub sides : MarksAll journal.sides.has events
  pub stream : IfSome journal.next (λ e. IsStream e.stream)

-- the same is known of the event that comes next
abbrev pub KnowsTheSame : JournalReader → JournalReader → Type 0
KnowsTheSame old now = (now.next ≡ old.next) × (now.is_over ≡ old.is_over)

-- the pieces are a journal, and these are its events
abbrev pub AreAllOf : List (List ℕ) → List Event → Type 0
AreAllOf pieces events = (text : List ℕ) × IsTextOf pieces text × ((lines : Lines) × AreOf text lines × Tell events lines)

-- the next event is known, where there is one: these were read for it
pub record LooksOn (old now : JournalReader) (pieces : List (List ℕ)) (events : List Event) : Type 0 where
  pub fresh : List Event
  pub come : HasCome now pieces (events ++ fresh)
  pub next : option_to_list now.next ≡ option_to_list old.next ++ fresh
  pub over : old.is_over ≡ true → (fresh ≡ []) × (now.is_over ≡ true)
