-- What is kept of lines while they are read.
use Rattle.std.specs.Prelude.{◌≡◌, ℕ, Option, None, Some, List, length}
use Rattle.amo_world.specs.declared.event.Event.{Event}
use Rattle.amo_journal.specs.declared.numbered.Numbered.{Numbered}
use Rattle.amo_journal.specs.Journal.{numbered, IsGapAt}

-- the events of lines that are numbered from 0 on, or the first gap
abbrev pub Keeps : List Event → Option ℕ → List Numbered → Type 0
Keeps events None lines = lines ≡ numbered 0 events
Keeps events (Some gap) lines = IsGapAt lines gap

-- given what it is to have taken events
module _ {T : Type 0} (HasTaken : T → List Event → Type 0) where
  -- so many lines were read; the events before the first gap were taken
  pub record Gathers (taker : T) (count : ℕ) (gap : Option ℕ) (lines : List Numbered) : Type 0 where
    pub events : List Event
    pub counted : count ≡ length lines
    pub kept : Keeps events gap lines
    pub taken : HasTaken taker events
