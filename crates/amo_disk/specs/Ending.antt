-- What the end of a file tells of the journal in it.
use Rattle.std.specs.Prelude.{◌≡◌, ◌≢◌, ℕ, ◌+◌, ◌-◌, ◌^◌, min, ◌⊎◌, Option, Some, None, List, ◌∷◌, ◌++◌, length, unwrap_or}
use Rattle.amo_object.specs.declared.step.End.{End}
use Rattle.amo_text.specs.Line.{Lacks}
use Rattle.amo_journal.specs.declared.numbered.Numbered.{Numbered}
use Rattle.amo_journal.specs.declared.version.Version.{Version}
use Rattle.amo_journal.specs.Version.{Opens, lines_before}
use Rattle.amo_journal.specs.Journal.{InRange, line_text}
use Rattle.amo_disk.specs.declared.ending.Ending.{Ending}
use Rattle.amo_disk.specs.declared.tail.Tail.{Tail}
use Rattle.amo_disk.specs.declared.fault.OpenFault.{OpenFault}
use Rattle.amo_disk.specs.declared.fault.OpenFault.TheVariants as told
use Rattle.amo_disk.specs.declared.tail.TailFault.{TailFault}
use Rattle.amo_disk.specs.declared.tail.TailFault.TheVariants as tail
use Rattle.amo_disk.specs.Tail.{Faults, IsTail}

-- the line of an event that stands in front has this number, if one does
abbrev pub HasFirst : Version → List ℕ → Option ℕ → Type 0
HasFirst version text (Some number) = (line : Numbered) × (more : List ℕ) × InRange version line × (text ≡ line_text line ++ more) × (line.number ≡ number)
HasFirst version text None = (line : Numbered) (more : List ℕ) → InRange version line → text ≢ line_text line ++ more

-- Behind its heading the file is lines and a torn one, of which this is told.
pub record IsHeaded (side : End) (bytes : List ℕ) (e : Ending) : Type 0 where
  pub version : Version
  pub body : List ℕ
  pub tail : Tail
  pub opens : Opens version body bytes
  pub first : HasFirst version body e.first
  pub tail_is : IsTail version side (unwrap_or e.first 0) body tail
  pub version_is : e.version ≡ Some version
  pub next : e.next ≡ tail.next
  pub whole : e.whole + length body ≡ length bytes + tail.whole
  pub back : e.back ≡ tail.back

-- what is told of a file without a whole line
abbrev pub nothing : Ending
nothing = record { version = None; first = None; next = 0; whole = 0; back = 0 }

-- the file has these bytes
abbrev pub IsEnding : End → List ℕ → Ending → Type 0
IsEnding side bytes e = ((e ≡ nothing) × Lacks 10 bytes) ⊎ IsHeaded side bytes e

-- A file of so many bytes begins with some and ends with others, and behind the first line that begins in the last ones these are lines and a torn one.
pub record IsFarEnding (side : End) (first last : List ℕ) (size : ℕ) (e : Ending) : Type 0 where
  pub version : Version
  pub body : List ℕ
  pub line : List ℕ
  pub text : List ℕ
  pub start : ℕ
  pub tail : Tail
  pub opens : Opens version body first
  pub first_is : HasFirst version body e.first
  pub parts : last ≡ line ++ 10 ∷ text
  pub endless : Lacks 10 line
  pub start_is : HasFirst version text (Some start)
  pub tail_is : IsTail version side start text tail
  pub version_is : e.version ≡ Some version
  pub next : e.next ≡ tail.next
  pub whole : e.whole + length text ≡ size + tail.whole
  pub back : e.back ≡ tail.back

-- The place of the line of this number, counted from 1, where the first line of an event has that one. It ends at the greatest number of 64 bits.
abbrev pub place_in : Version → ℕ → ℕ → ℕ
place_in version first number = min (number - first + lines_before version + 1) (2 ^ 64 - 1)

-- a fault, with the place of its line
abbrev pub placed_in : Version → ℕ → TailFault → OpenFault
placed_in version first (tail.Malformed number) = told.Malformed (place_in version first number)
placed_in version first (tail.Gap number) = told.Gap (place_in version first number)
placed_in version first (tail.OtherSide number) = told.OtherSide (place_in version first number)
placed_in version first tail.NoMemory = told.NoMemory

-- Behind its heading the file is no lines of this side with a torn one, and this is the place of the first that is at fault.
pub record IsFaulty (side : End) (bytes : List ℕ) (fault : OpenFault) : Type 0 where
  pub version : Version
  pub body : List ℕ
  pub first : Option ℕ
  pub why : TailFault
  pub opens : Opens version body bytes
  pub first_is : HasFirst version body first
  pub faults : Faults version side (unwrap_or first 0) body why
  pub placed : fault ≡ placed_in version (unwrap_or first 0) why

-- why a file of these bytes has no end of a journal of this side, unless memory was refused
abbrev pub IsNoEnding : End → List ℕ → OpenFault → Type 0
IsNoEnding side bytes fault = (fault ≡ told.NoMemory) ⊎ IsFaulty side bytes fault
