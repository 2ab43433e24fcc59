-- How far two lists of events are merged and judged. Every list here is in the order of time.
use Rattle.std.specs.Prelude.{◌≡◌, ℕ, ◌+◌, ◌<◌, List, ◌++◌, length, reverse}
use Rattle.amo_world.specs.declared.event.Event.{Event}
use Rattle.amo_journal.specs.declared.version.Version.{Version}
use Rattle.amo_journal.specs.Version.{lines_before}
use Rattle.amo_audit.specs.declared.reach.Reach.{Reach}
use Rattle.amo_audit.specs.declared.reach.Reach.TheVariants.{Whole, First, Second}
use Rattle.amo_audit.specs.Merge.{IsPreferred, IsStuck, MayGo, SharesSide}

-- beginnings of two lists, and their preferred interleaving, behind which no event of either may go: so they are the greatest that merge
pub record AreBeginnings (x y first second merged : List Event) : Type 0 where
  pub behind_first : List Event
  pub behind_second : List Event
  pub first_of : x ≡ first ++ behind_first
  pub second_of : y ≡ second ++ behind_second
  pub preferred : IsPreferred first second merged
  pub first_waits : ¬ (MayGo (reverse merged) behind_first)
  pub second_waits : ¬ (MayGo (reverse merged) behind_second)

-- these beginnings go so far: one list is whole, and of the other this is the line, counted from 1, of the first event that is left out
abbrev pub Reaches : Reach → List Event → List Event → List Event → List Event → Type 0
Reaches Whole x y first second = (first ≡ x) × (second ≡ y)
Reaches (First at) x y first second = (second ≡ y) × (at ≡ length first + 1) × (length first < length x)
Reaches (Second at) x y first second = (first ≡ x) × (at ≡ length second + 1) × (length second < length y)

-- whatever more events of their sides follow in either list, no interleaving is honest
abbrev pub StaysStuck : List Event → List Event → Type 0
StaysStuck x y = (more more' : List Event) → (¬ (SharesSide (x ++ more) (y ++ more'))) → IsStuck (x ++ more) (y ++ more')

-- the line that is named, or 0
abbrev pub line_named : Reach → ℕ
line_named Whole = 0
line_named (First at) = at
line_named (Second at) = at

-- the same, where lines are counted from the first of each file
abbrev pub counted : Version → Version → Reach → Reach
counted v w Whole = Whole
counted v w (First at) = First (at + lines_before v)
counted v w (Second at) = Second (at + lines_before w)
