-- What became of the puts of two journals, in the greatest beginnings of them that merge.
use Rattle.std.specs.Prelude.{◌≡◌, ◌≢◌, ◌⊎◌, ℕ, List, reverse}
use Rattle.amo_world.specs.declared.event.Event.{Event}
use Rattle.amo_outcomes.specs.declared.outcome.Outcome.{Outcome}
use Rattle.amo_outcomes.specs.declared.followers.Followers.{Followers}
use Rattle.amo_outcomes.specs.Followers.{HaveFollowed}
use Rattle.amo_outcomes.specs.Told.{StreamsTold}
use Rattle.amo_journal.specs.declared.lines.Lines.{Lines}
use Rattle.amo_journal.specs.Lines.{Tell}
use Rattle.amo_audit.specs.declared.judgement.Judgement.{Judgement}
use Rattle.amo_audit.specs.declared.judgement.Judgement.TheVariants as found
use Rattle.amo_audit.specs.declared.reach.Reach.{Reach}
use Rattle.amo_audit.specs.declared.reach.Reach.TheVariants.{Whole, First, Second}
use Rattle.amo_audit.specs.declared.verdict.Verdict.{Verdict}
use Rattle.amo_audit.specs.declared.verdict.Verdict.TheVariants as verdict
use Rattle.amo_audit.specs.Alone.{IsSoundAlone, JudgesAlone}
use Rattle.amo_audit.specs.Audit.{AreOf, IsSound, JudgesEvents}
use Rattle.amo_audit.specs.Judgement as judgement
use Rattle.amo_audit.specs.Judgement.{AreApart, OfBoth, TellNone, TellSome}
use Rattle.amo_audit.specs.Merge.{SharesSide}
use Rattle.amo_audit.specs.Merging.{NeverMerge}
use Rattle.amo_audit.specs.Reach.{AreBeginnings, Reaches}
use Rattle.amo_audit.specs.Reach as extent

-- the list that goes on behind what is judged is right and fresh to its end
abbrev pub GoesOnSoundly : Reach → List Event → List Event → Type 0
GoesOnSoundly Whole x y = Unit {0}
GoesOnSoundly (First at) x y = IsSoundAlone (reverse x)
GoesOnSoundly (Second at) x y = IsSoundAlone (reverse y)

-- the merge of the greatest beginnings of lists that share no side is right, honest and fresh, and this became of its puts, stream by stream
pub record MergeTells (reach : Reach) (all : List (List Outcome)) (x y : List Event) : Type 0 where
  pub apart : AreApart x y
  pub first : List Event
  pub second : List Event
  pub merged : List Event
  pub beginnings : AreBeginnings x y first second merged
  pub reaches : Reaches reach x y first second
  pub sound : IsSound (reverse merged)
  pub told : StreamsTold (reverse merged) 256 all

-- the same of the lines of two journals
abbrev pub TellMerge : Lines → Lines → Reach → List (List Outcome) → Type 0
TellMerge first second reach all = OfBoth first second (MergeTells reach all)

-- and the one that goes on is right and fresh to its end
abbrev pub TellOutcomes : Lines → Lines → Reach → List (List Outcome) → Type 0
TellOutcomes first second reach all = TellMerge first second reach all × OfBoth first second (GoesOnSoundly reach)

-- and of two files
pub record TellOutcomesOfBoth (first second : List ℕ) (reach : Reach) (all : List (List Outcome)) : Type 0 where
  pub ours : Lines
  pub theirs : Lines
  pub opens : AreOf first ours × AreOf second theirs
  pub found : Reach
  pub tell : TellOutcomes ours theirs found all
  pub is : reach ≡ extent.counted ours.version theirs.version found

-- events in the order of time were followed, if they are right, honest and fresh
abbrev pub FollowsIfSound : Followers → List Event → Type 0
FollowsIfSound followers events = IsSound (reverse events) → HaveFollowed followers (reverse events)

-- of lists that share no side, the merge of the greatest beginnings is judged so
abbrev pub BeginningsAreJudged : Verdict → List Event → List Event → Type 0
BeginningsAreJudged v x y = AreApart x y × ((first : List Event) × (second : List Event) × (merged : List Event) × AreBeginnings x y first second merged × JudgesEvents merged v)

-- the lines tell of none, or of events that are at fault by themselves
abbrev pub IsAtFault : Lines → Verdict → Type 0
IsAtFault lines v = TellNone lines v ⊎ ((events : List Event) × Tell events lines × JudgesAlone events v)

-- why nothing is told of the lines of two journals, whatever follows in them; want of memory says nothing
abbrev pub FindsTwo : Lines → Lines → Judgement → Type 0
FindsTwo first second (found.First v) = (v ≢ verdict.Yes) × IsAtFault first v
FindsTwo first second (found.Second v) = (v ≢ verdict.Yes) × TellSome first × IsAtFault second v
FindsTwo first second found.Shared = OfBoth first second SharesSide
FindsTwo first second found.Stuck = OfBoth first second NeverMerge
FindsTwo first second (found.Whole verdict.NoMemory) = Unit {0}
FindsTwo first second (found.Whole v) = (v ≢ verdict.Yes) × OfBoth first second (BeginningsAreJudged v)

-- and of two files
pub record FindsBoth (first second : List ℕ) (found : Judgement) : Type 0 where
  pub ours : Lines
  pub theirs : Lines
  pub opens : AreOf first ours × AreOf second theirs
  pub inner : Judgement
  pub finds : FindsTwo ours theirs inner
  pub is : found ≡ judgement.counted ours.version theirs.version inner
