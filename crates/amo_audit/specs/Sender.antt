-- What is found of one journal that is to be a sender's.
use Rattle.std.specs.Prelude.{◌≡◌, ◌≢◌, ◌⊎◌, ℕ, List, reverse}
use Rattle.amo_world.specs.declared.event.Event.{Event}
use Rattle.amo_journal.specs.declared.lines.Lines.{Lines}
use Rattle.amo_journal.specs.Version.{lines_before}
use Rattle.amo_journal.specs.Lines.{Tell}
use Rattle.amo_audit.specs.Audit as audit
use Rattle.amo_audit.specs.Audit.{AreOf, further}
use Rattle.amo_audit.specs.Judgement.{TellNone}
use Rattle.amo_audit.specs.Alone.{IsSoundAlone, IsWhose, JudgesAlone}
use Rattle.amo_audit.specs.declared.verdict.Verdict.TheVariants as verdict
use Rattle.amo_audit.specs.declared.whose.Whose.TheVariants as whose
use Rattle.amo_audit.specs.declared.sender_found.SenderFound.{SenderFound}
use Rattle.amo_audit.specs.declared.sender_found.SenderFound.TheVariants.{Good, Wrong, OfReceiver, OfBoth}

-- what is found of events in the order of time
abbrev pub FindsEvents : List Event → SenderFound → Type 0
FindsEvents events Good = IsWhose events whose.Sender × IsSoundAlone (reverse events)
FindsEvents events (Wrong v) = IsWhose events whose.Sender × JudgesAlone events v × (v ≢ verdict.Yes)
FindsEvents events OfReceiver = IsWhose events whose.Receiver
FindsEvents events OfBoth = IsWhose events whose.Both

-- the lines tell of events of which this is found
abbrev pub TellFound : Lines → SenderFound → Type 0
TellFound lines found = (events : List Event) × Tell events lines × FindsEvents events found

-- what is found of lines, which it counts from 1: they tell of no events, and this is why, or of such events
abbrev pub FindsLines : Lines → SenderFound → Type 0
FindsLines lines (Wrong v) = TellNone lines v ⊎ TellFound lines (Wrong v)
FindsLines lines found = TellFound lines found

-- the line that is named, or 0
abbrev pub line_named : SenderFound → ℕ
line_named (Wrong v) = audit.line_named v
line_named _ = 0

-- the same finding, so many lines further on
abbrev pub counted : ℕ → SenderFound → SenderFound
counted more (Wrong v) = Wrong (further more v)
counted more found = found

-- what is found of a file, where the line that is named is counted from the file's first
pub record Finds (bytes : List ℕ) (found : SenderFound) : Type 0 where
  pub lines : Lines
  pub opens : AreOf bytes lines
  pub inner : SenderFound
  pub finds : FindsLines lines inner
  pub is : found ≡ counted (lines_before lines.version) inner

-- the file is a journal of these events, which are a sender's, right and fresh
abbrev pub IsSenders : List ℕ → List Event → Type 0
IsSenders bytes events = (lines : Lines) × AreOf bytes lines × Tell events lines × FindsEvents events Good
