-- What lines at the end of a journal tell.
use Rattle.std.specs.Prelude.{◌≡◌, ◌≢◌, ℕ, ◌+◌, ◌^◌, ◌<◌, ◌⊎◌, List, ◌++◌, length}
use Rattle.std.specs.List.{AllByRecursion}
use Rattle.amo_object.specs.declared.step.End.{End}
use Rattle.amo_text.specs.Line.{Lacks, text_of}
use Rattle.amo_world.specs.declared.event.Event.{Event}
use Rattle.amo_journal.specs.declared.numbered.Numbered.{Numbered}
use Rattle.amo_journal.specs.declared.version.Version.{Version}
use Rattle.amo_journal.specs.Journal.{InRange, SpellsLines, fields_of, line_text, numbered}
use Rattle.amo_disk.specs.declared.tail.Last.{Last}
use Rattle.amo_disk.specs.declared.tail.Tail.{Tail}
use Rattle.amo_disk.specs.declared.tail.TailFault.{TailFault}
use Rattle.amo_disk.specs.declared.tail.TailFault.TheVariants.{Malformed, Gap, OtherSide, NoMemory}
use Rattle.amo_disk.specs.Back.{IsBack, no_returns, returns_after, returns_behind}

-- The text is the lines of these events of this side, numbered from this number on, and then the rest.
pub record Behind (version : Version) (side : End) (first : ℕ) (text : List ℕ) (events : List Event) (rest : List ℕ) : Type 0 where
  pub front : List ℕ
  pub parts : text ≡ front ++ rest
  pub lines : SpellsLines version front (numbered first events)
  pub sides : AllByRecursion (λ e. e.side ≡ side) events

-- The text is lines of events of this side, numbered from this number on, and then a torn line. The tail tells the number of the next one, how many
-- bytes the whole ones have, and how many streams came back by the last events.
pub record IsTail (version : Version) (side : End) (first : ℕ) (text : List ℕ) (tail : Tail) : Type 0 where
  pub events : List Event
  pub torn : List ℕ
  pub behind : Behind version side first text events torn
  pub endless : Lacks 10 torn
  pub next : tail.next ≡ first + length events
  pub whole : tail.whole + length torn ≡ length text
  pub back : IsBack side events tail.back

-- each line of an event is shorter, in either version
abbrev pub IsTooLong : List ℕ → Type 0
IsTooLong text = (version : Version) (line : Numbered) → InRange version line → length (text_of (fields_of line)) < length text

-- Why a line, which is to have this number, is no next one.
abbrev pub LineFaults : End → ℕ → Numbered → TailFault → Type 0
LineFaults side next line (Malformed n) = (n ≡ next) × (line.number ≡ next) × (next + 1 ≡ 2 ^ 64)
LineFaults side next line (Gap n) = (n ≡ next) × (line.number ≢ next)
LineFaults side next line (OtherSide n) = (n ≡ next) × (line.number ≡ next) × (line.event.side ≢ side)
LineFaults side next line NoMemory = ⊥

-- the line in front is at fault
abbrev pub FrontFaults : Version → End → ℕ → List ℕ → TailFault → Type 0
FrontFaults version side next rest fault = (line : Numbered) × (more : List ℕ) × InRange version line × (rest ≡ line_text line ++ more) × LineFaults side next line fault

-- no line of an event stands in front
abbrev pub HasNone : Version → List ℕ → Type 0
HasNone version rest = (line : Numbered) (more : List ℕ) → InRange version line → rest ≢ line_text line ++ more

-- why a text does not go on with a line of this number: the one in front is at fault; or none is in front, though a line ends there, or what is there is too long for one
abbrev pub RestFaults : Version → End → ℕ → List ℕ → TailFault → Type 0
RestFaults version side next rest fault = FrontFaults version side next rest fault ⊎ ((fault ≡ Malformed next) × HasNone version rest × ((Lacks 10 rest → ⊥) ⊎ IsTooLong rest))

-- Why the text is no end of a journal of this side, unless memory was refused: it is lines, numbered from this number on, and then what is at fault.
abbrev pub Faults : Version → End → ℕ → List ℕ → TailFault → Type 0
Faults version side first text fault =
    (fault ≡ NoMemory) ⊎ ((events : List Event) × (rest : List ℕ) × Behind version side first text events rest × RestFaults version side (first + length events) rest fault)

-- the line is the next one, of this side
pub record TakesLine (side : End) (old new : Last) (line : Numbered) : Type 0 where
  pub number : line.number ≡ old.next
  pub of : line.event.side ≡ side
  pub next : new.next ≡ old.next + 1
  pub returns : new.returns ≡ returns_after old.returns line.event

-- the line in front is the next one, and these are behind it
pub record TakesFront (version : Version) (side : End) (text : List ℕ) (old : Last) (more : List ℕ) (new : Last) : Type 0 where
  pub line : Numbered
  pub known : InRange version line
  pub cut : text ≡ line_text line ++ more
  pub takes : TakesLine side old new line

-- lines were taken, and this is what is so behind them
pub record GoesOn (version : Version) (side : End) (first : ℕ) (text : List ℕ) (last : Last) (rest : List ℕ) : Type 0 where
  pub events : List Event
  pub behind : Behind version side first text events rest
  pub next : last.next ≡ first + length events
  pub returns : last.returns ≡ returns_behind no_returns events
