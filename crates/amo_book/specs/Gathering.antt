-- How passes and charges come back, and what the table then tells.
use Rattle.std.specs.Prelude.{◌≡◌, ℕ, ◌%◌, ◌^◌, ◌<◌, Bool, true, false, List, length, map, Some, slice_get, get_or}
use Rattle.amo_object.specs.declared.step.End.{End}
use Rattle.amo_core.specs.declared.automaton.Automaton.{Automaton}
use Rattle.amo_world.specs.declared.event.Event.{Event}
use Rattle.amo_world.specs.History.{IsRight, Extends, events_of}
use Rattle.amo_book.specs.declared.index.Index.{Index}
use Rattle.amo_book.specs.declared.view.View.{View}
use Rattle.amo_book.specs.Pass.{PassState, mine, automaton_after}
use Rattle.amo_book.specs.Charge.{ChargeState}
use Rattle.amo_book.specs.Closed.{HasPass}
use Rattle.amo_book.specs.Index.{place_of}
use Rattle.amo_book.specs.Rule.{AllBelow, Has}

-- each charge's side stands at its place
abbrev pub AreAt : List (End × ℕ) → List ChargeState → Type 0
AreAt sides charges = (j : ℕ) (c : ChargeState) → slice_get charges j ≡ Some c → slice_get sides c.place ≡ Some (c.side, c.stream)

-- the index has the sides of the first n charges, each with the place of such a charge, and no others
pub record Covers (charges : List ChargeState) (n : ℕ) (index : Index) : Type 0 where
  pub kept : (side : End) (stream place : ℕ) → place_of index side stream ≡ Some place
      → (j : ℕ) × (c : ChargeState) × (slice_get charges j ≡ Some c) × (c.place ≡ place) × (c.side ≡ side) × (c.stream ≡ stream)
  pub found : (j : ℕ) (c : ChargeState) → j < n → slice_get charges j ≡ Some c → (place : ℕ) × (place_of index c.side c.stream ≡ Some place)

-- the marks tell which numbers the first n passes have
pub record Marks (passes : List PassState) (n : ℕ) (marks : List Bool) : Type 0 where
  pub kept : (number : ℕ) → get_or marks number false ≡ true → HasPass passes number
  pub found : (j : ℕ) (p : PassState) → j < n → slice_get passes j ≡ Some p → p.number < length marks → get_or marks p.number false ≡ true

-- the view has the pass's share, and has seen what it had seen
abbrev pub HasTaken : View → PassState → Type 0
HasTaken v p = Has v.shares p.number (mine p) × Extends v.seen p.seen

-- the history at the end, as the seat that gathered all knows it
pub record Ends (sides : List (End × ℕ)) (passes : ℕ) (v : View) (count : ℕ) (states : List Automaton) : Type 0 where
  pub log : List Event
  pub right : IsRight log
  pub ours : AllBelow passes log
  pub seen : Extends log v.seen
  pub owns : (p : ℕ) (m : List Event) → Has v.shares p m → events_of p log ≡ m
  pub counted : count ≡ length log % 2 ^ 64
  pub replays : states ≡ map (λ side. automaton_after side.0 side.1 log) sides
