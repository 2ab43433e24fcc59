-- How a book ends.
use Rattle.std.specs.Prelude.{◌≡◌, ℕ, ◌%◌, ◌^◌, ◌<◌, List, length, map, slice_get, Some}
use Rattle.atomic_table.specs.Seated.{TableId}
use Rattle.amo_core.specs.declared.automaton.Automaton.{Automaton}
use Rattle.amo_world.specs.declared.event.Event.{Event}
use Rattle.amo_world.specs.History.{IsRight, Extends, events_of}
use Rattle.amo_book.specs.Pass.{PassState, mine, automaton_after, Serves}
use Rattle.amo_book.specs.Charge.{ChargeState}
use Rattle.amo_book.specs.Book.{BookState, Each}
use Rattle.amo_book.specs.Rule.{AllBelow}

-- how many events there were, modulo 2^64, and each side's last state, in the order of the book's sides
pub record ClosedState : Type 0 where
  pub count : ℕ
  pub states : List Automaton

-- the list has the pass of a number
abbrev pub HasPass : List PassState → ℕ → Type 0
HasPass passes number = (k : ℕ) × (p : PassState) × (slice_get passes k ≡ Some p) × (p.number ≡ number)

-- the list has the charge of a place
abbrev pub HasCharge : List ChargeState → ℕ → Type 0
HasCharge charges place = (k : ℕ) × (c : ChargeState) × (slice_get charges k ≡ Some c) × (c.place ≡ place)

-- the list has the pass of each number below n
abbrev pub AllPasses : List PassState → ℕ → Type 0
AllPasses passes n = (number : ℕ) → number < n → HasPass passes number

-- the list has the charge of each place below n
abbrev pub AllCharges : List ChargeState → ℕ → Type 0
AllCharges charges n = (place : ℕ) → place < n → HasCharge charges place

-- no pass and no charge of the book is lacking
abbrev pub AreAll : BookState → List PassState → List ChargeState → Type 0
AreAll book passes charges = AllPasses passes book.passes × AllCharges charges (length book.sides)

-- the pass is this book's
abbrev pub IsOf : TableId → PassState → Type 0
IsOf id p = p.book ≡ id

-- the history goes on from what the pass had seen, and has just its events
abbrev pub StandsIn : List Event → PassState → Type 0
StandsIn history p = Extends history p.seen × (events_of p.number history ≡ mine p)

-- There is one right history that goes on from what each pass had seen, with each pass's events and no others, whose replay the last states are.
-- Where it is honest and fresh, each stream is served.
pub record Closes (book : BookState) (passes : List PassState) (closed : ClosedState) : Type 0 where
  pub history : List Event
  pub right : IsRight history
  pub served : Serves history
  pub each : Each (StandsIn history) passes
  pub no_others : AllBelow book.passes history
  pub states : closed.states ≡ map (λ side. automaton_after side.0 side.1 history) book.sides
  pub count : closed.count ≡ length history % 2 ^ 64
