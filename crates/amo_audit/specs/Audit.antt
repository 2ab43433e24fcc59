-- What an audit finds.
use Rattle.std.specs.Prelude.{◌≡◌, ℕ, ◌+◌, List, ◌∷◌, ◌++◌, length, reverse}
use Rattle.amo_world.specs.declared.event.Event.{Event}
use Rattle.amo_world.specs.declared.fault.WorldFault.{WorldFault}
use Rattle.amo_world.specs.declared.fault.WorldFault.TheVariants as fault
use Rattle.amo_world.specs.History.{IsRight, IsHonest, IsFresh}
use Rattle.amo_world.specs.Served.{IsServed}
use Rattle.amo_world.specs.World.{Refuses}
use Rattle.amo_audit.specs.declared.auditor.Finding.{Finding}
use Rattle.amo_audit.specs.declared.auditor.Finding.TheVariants.{Nothing, AtFault}
use Rattle.amo_audit.specs.declared.verdict.Verdict.{Verdict}
use Rattle.amo_audit.specs.declared.verdict.Verdict.TheVariants as verdict
use Rattle.amo_journal.specs.declared.lines.Lines.{Lines}
use Rattle.amo_journal.specs.Version.{lines_before, Opens}
use Rattle.amo_journal.specs.Journal.{HasMalformed, HasGap}
use Rattle.amo_journal.specs.Lines.{Tell}

-- right, honest and fresh
abbrev pub IsSound : List Event → Type 0
IsSound past = IsRight past × IsHonest past × IsFresh past

-- of events in the order of time, the event of this line, counted from 1, is the first at fault, and this is its fault
pub record IsFaultAt (events : List Event) (at : ℕ) (why : WorldFault) : Type 0 where
  pub before : List Event
  pub event : Event
  pub after : List Event
  pub whole : events ≡ before ++ event ∷ after
  pub sound : IsSound (reverse before)
  pub refused : Refuses (reverse before) event why
  pub count : at ≡ length before + 1

-- lines that tell of an event at fault, which is that of this line
abbrev pub TellFaultAt : Lines → ℕ → WorldFault → Type 0
TellFaultAt lines at why = (events : List Event) × Tell events lines × IsFaultAt events at why

-- lines that tell a sound history, which serves each stream
abbrev pub AreGood : Lines → Type 0
AreGood lines = (events : List Event) × Tell events lines × IsSound (reverse events) × ((number : ℕ) → IsServed number (reverse events))

-- what a verdict says of lines of events, which it counts from 1
abbrev pub JudgesLines : Lines → Verdict → Type 0
JudgesLines lines verdict.Yes = AreGood lines
JudgesLines lines (verdict.Malformed at) = HasMalformed lines.version lines.text.now at
JudgesLines lines (verdict.Gap at) = HasGap lines.version lines.text.now at
JudgesLines lines (verdict.WrongReply at) = TellFaultAt lines at fault.WrongReply
JudgesLines lines (verdict.Unsent at) = TellFaultAt lines at fault.Unsent
JudgesLines lines (verdict.Repeat at) = TellFaultAt lines at fault.Repeat
JudgesLines lines verdict.NoMemory = Unit {0}

-- the line that a verdict names, or 0
abbrev pub line_named : Verdict → ℕ
line_named (verdict.Malformed at) = at
line_named (verdict.Gap at) = at
line_named (verdict.WrongReply at) = at
line_named (verdict.Unsent at) = at
line_named (verdict.Repeat at) = at
line_named _ = 0

-- the same verdict, so many lines further on
abbrev pub further : ℕ → Verdict → Verdict
further more (verdict.Malformed at) = verdict.Malformed (at + more)
further more (verdict.Gap at) = verdict.Gap (at + more)
further more (verdict.WrongReply at) = verdict.WrongReply (at + more)
further more (verdict.Unsent at) = verdict.Unsent (at + more)
further more (verdict.Repeat at) = verdict.Repeat (at + more)
further more v = v

-- these are the lines of a file's events
abbrev pub AreOf : List ℕ → Lines → Type 0
AreOf bytes lines = Opens lines.version lines.text.now bytes

-- What a verdict says of a file: of the lines of its events, where the line that it names is counted from the file's first.
pub record Judges (bytes : List ℕ) (v : Verdict) : Type 0 where
  pub lines : Lines
  pub opens : AreOf bytes lines
  pub found : Verdict
  pub judged : JudgesLines lines found
  pub is : v ≡ further (lines_before lines.version) found

-- what a verdict says of events in the order of time
abbrev pub JudgesEvents : List Event → Verdict → Type 0
JudgesEvents events verdict.Yes = IsSound (reverse events) × ((number : ℕ) → IsServed number (reverse events))
JudgesEvents events (verdict.WrongReply at) = IsFaultAt events at fault.WrongReply
JudgesEvents events (verdict.Unsent at) = IsFaultAt events at fault.Unsent
JudgesEvents events (verdict.Repeat at) = IsFaultAt events at fault.Repeat
JudgesEvents events verdict.NoMemory = Unit {0}
JudgesEvents events _ = ⊥

-- the exit status of a verdict
abbrev pub status_of : Verdict → ℕ
status_of verdict.Yes = 0
status_of (verdict.WrongReply at) = 1
status_of (verdict.Malformed at) = 2
status_of (verdict.Gap at) = 2
status_of (verdict.Unsent at) = 3
status_of (verdict.Repeat at) = 3
status_of verdict.NoMemory = 4

-- what was found in the events so far, in the order of time, with this history kept
abbrev pub Finds : List Event → Finding → List Event → Type 0
Finds world Nothing events = (world ≡ reverse events) × IsSound world
Finds world (AtFault at why) events = IsFaultAt events at why
