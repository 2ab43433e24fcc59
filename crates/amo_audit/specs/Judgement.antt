-- What is found of one journal, or of two that are merged.
use Rattle.std.specs.Prelude.{◌≡◌, ℕ, Option, None, Some, List}
use Rattle.std.specs.Borrow.{Bor}
use Rattle.amo_world.specs.declared.event.Event.{Event}
use Rattle.amo_audit.specs.declared.verdict.Verdict.{Verdict}
use Rattle.amo_audit.specs.declared.verdict.Verdict.TheVariants as verdict
use Rattle.amo_audit.specs.declared.judgement.Judgement.{Judgement}
use Rattle.amo_audit.specs.declared.judgement.Judgement.TheVariants.{Whole, First, Second, Shared, Stuck}
use Rattle.amo_journal.specs.declared.lines.Lines.{Lines}
use Rattle.amo_journal.specs.declared.version.Version.{Version}
use Rattle.amo_journal.specs.declared.version.Version.TheVariants.{One}
use Rattle.amo_journal.specs.Version.{lines_before}
use Rattle.amo_journal.specs.Journal.{HasMalformed, HasGap}
use Rattle.amo_journal.specs.Lines.{Tell}
use Rattle.amo_audit.specs.Audit as audit
use Rattle.amo_audit.specs.Audit.{AreOf, Judges, JudgesEvents, further, status_of}
use Rattle.amo_audit.specs.Merge.{IsPreferred, IsStuck, SharesSide}

-- the lines tell of some events
abbrev pub TellSome : Lines → Type 0
TellSome lines = (events : List Event) × Tell events lines

-- the lines tell of none, and this is why; want of memory says nothing
abbrev pub TellNone : Lines → Verdict → Type 0
TellNone lines (verdict.Malformed at) = HasMalformed lines.version lines.text.now at
TellNone lines (verdict.Gap at) = HasGap lines.version lines.text.now at
TellNone lines verdict.NoMemory = Unit {0}
TellNone lines _ = ⊥

-- both tell of events, and this holds of them
abbrev pub OfBoth : Lines → Lines → (List Event → List Event → Type 0) → Type 0
OfBoth first second Holds = (x : List Event) × (y : List Event) × Tell x first × Tell y second × Holds x y

-- no side of a stream has events in both
abbrev pub AreApart : List Event → List Event → Type 0
AreApart x y = ¬ (SharesSide x y)

-- why the lines of two are not merged at all: either is no journal, or a side has events in both
abbrev pub AreNotMerged : Lines → Lines → Judgement → Type 0
AreNotMerged first second (First v) = TellNone first v
AreNotMerged first second (Second v) = TellSome first × TellNone second v
AreNotMerged first second Shared = OfBoth first second SharesSide
AreNotMerged first second _ = ⊥

-- of lists that share no side, the preferred interleaving is judged so
abbrev pub MergeIsJudged : Verdict → List Event → List Event → Type 0
MergeIsJudged v x y = AreApart x y × ((merged : List Event) × IsPreferred x y merged × JudgesEvents merged v)

-- of lists that share no side, no interleaving is honest
abbrev pub CannotMerge : List Event → List Event → Type 0
CannotMerge x y = AreApart x y × IsStuck x y

-- what is found of the lines of two, which it counts from 1 in each, and in their merge; want of memory says nothing
abbrev pub JudgesTwo : Lines → Lines → Judgement → Type 0
JudgesTwo first second (First v) = TellNone first v
JudgesTwo first second (Second v) = TellSome first × TellNone second v
JudgesTwo first second Shared = OfBoth first second SharesSide
JudgesTwo first second Stuck = OfBoth first second CannotMerge
JudgesTwo first second (Whole verdict.NoMemory) = Unit {0}
JudgesTwo first second (Whole v) = OfBoth first second (MergeIsJudged v)

-- how many lines stand in front of a merged journal's first event: one, where either journal is of version 2
abbrev pub merged_before : Version → Version → ℕ
merged_before One One = 0
merged_before _ _ = 1

-- the line that is named, or 0
abbrev pub line_named : Judgement → ℕ
line_named (First verdict) = audit.line_named verdict
line_named (Second verdict) = audit.line_named verdict
line_named (Whole verdict) = audit.line_named verdict
line_named Shared = 0
line_named Stuck = 0

-- the same finding, where lines are counted from the first of each file, and of the merged journal
abbrev pub counted : Version → Version → Judgement → Judgement
counted v w (First verdict) = First (further (lines_before v) verdict)
counted v w (Second verdict) = Second (further (lines_before w) verdict)
counted v w (Whole verdict) = Whole (further (merged_before v w) verdict)
counted v w Shared = Shared
counted v w Stuck = Stuck

-- what is found of two files
pub record JudgesBoth (first second : List ℕ) (judgement : Judgement) : Type 0 where
  pub ours : Lines
  pub theirs : Lines
  pub opens : AreOf first ours × AreOf second theirs
  pub found : Judgement
  pub judged : JudgesTwo ours theirs found
  pub is : judgement ≡ counted ours.version theirs.version found

-- what is found of one, or of two
abbrev pub JudgesFiles : List ℕ → Option (Bor (List ℕ)) → Judgement → Type 0
JudgesFiles first None (Whole v) = Judges first v
JudgesFiles first None _ = ⊥
JudgesFiles first (Some second) judgement = JudgesBoth first second.now judgement

-- the exit status
abbrev pub judgement_status : Judgement → ℕ
judgement_status (Whole v) = status_of v
judgement_status (First v) = status_of v
judgement_status (Second v) = status_of v
judgement_status Shared = 2
judgement_status Stuck = 3
