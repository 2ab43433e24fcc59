-- Where two lists of events stop, as far as they merge. Every list here is in the order of time.
use Rattle.std.specs.Prelude.{◌≡◌, ℕ, ◌+◌, ◌<◌, Option, None, Some, List, length}
use Rattle.amo_world.specs.declared.event.Event.{Event}
use Rattle.amo_journal.specs.declared.lines.Lines.{Lines}
use Rattle.amo_journal.specs.declared.version.Version.{Version}
use Rattle.amo_journal.specs.Version.{lines_before}
use Rattle.amo_audit.specs.declared.judgement.Judgement.{Judgement}
use Rattle.amo_audit.specs.declared.judgement.Judgement.TheVariants as found
use Rattle.amo_audit.specs.declared.reach.Reach.{Reach}
use Rattle.amo_audit.specs.declared.reach.Reach.TheVariants.{Whole, First, Second}
use Rattle.amo_audit.specs.declared.stops.Stops.{Stops}
use Rattle.amo_audit.specs.declared.verdict.Verdict.TheVariants as verdict
use Rattle.amo_audit.specs.Audit.{AreOf}
use Rattle.amo_audit.specs.Judgement.{AreApart, OfBoth}
use Rattle.amo_audit.specs.Reach.{AreBeginnings}

-- a list is taken to its end; or this is the line, counted from 1, of its first event that is left out
abbrev pub Stop : Option ℕ → List Event → List Event → Type 0
Stop None x first = first ≡ x
Stop (Some at) x first = (at ≡ length first + 1) × (length first < length x)

-- lists that share no side stop there, behind their greatest beginnings that merge
pub record StopAt (stops : Stops) (x y : List Event) : Type 0 where
  pub apart : AreApart x y
  pub first : List Event
  pub second : List Event
  pub merged : List Event
  pub beginnings : AreBeginnings x y first second merged
  pub first_stops : Stop stops.first x first
  pub second_stops : Stop stops.second y second

-- where lists stop of which one at most goes on
abbrev pub of_reach : Reach → Stops
of_reach Whole = record { first = None; second = None }
of_reach (First at) = record { first = Some at; second = None }
of_reach (Second at) = record { first = None; second = Some at }

-- where lists stop that both go on, from these lines
abbrev pub both_at : ℕ → ℕ → Stops
both_at first second = record { first = Some first; second = Some second }

-- so many lines further on than a line, if there is one
abbrev pub on_by : ℕ → Option ℕ → Option ℕ
on_by more None = None
on_by more (Some at) = Some (at + more)

-- the same, where lines are counted from the first of each file
abbrev pub counted : Version → Version → Stops → Stops
counted v w stops = record { first = on_by (lines_before v) stops.first; second = on_by (lines_before w) stops.second }

-- and of two files
pub record StopBoth (first second : List ℕ) (stops : Stops) : Type 0 where
  pub ours : Lines
  pub theirs : Lines
  pub opens : AreOf first ours × AreOf second theirs
  pub found : Stops
  pub stop : OfBoth ours theirs (StopAt found)
  pub is : stops ≡ counted ours.version theirs.version found

-- so judged are two files that are not merged at all: one is no journal, a side has events in both, or memory was refused
abbrev pub AreUnmerged : Judgement → Type 0
AreUnmerged (found.Whole verdict.NoMemory) = Unit {0}
AreUnmerged (found.Whole _) = ⊥
AreUnmerged found.Stuck = ⊥
AreUnmerged _ = Unit {0}
