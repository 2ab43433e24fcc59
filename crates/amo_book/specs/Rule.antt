-- The rule of a book's table: one right history stands behind all that the seats know.
use Rattle.std.specs.Prelude.{◌≡◌, ◌≢◌, ℕ, zero, suc, ◌+◌, ◌*◌, ◌%◌, ◌^◌, ◌<◌, List, [], ◌∷◌, ◌⊎◌, length, slice_index, slice_get, get_or, Option, Some, None}
use mathlib.Core.Option.{some}
use lib.ListN.{get_elem?}
use Rattle.atomic_table.specs.Table.{State}
use Rattle.amo_object.specs.declared.step.End.{End}
use Rattle.amo_object.specs.declared.step.End.TheVariants.{Sender}
use Rattle.amo_core.specs.declared.automaton.Automaton.{Automaton}
use Rattle.amo_world.specs.declared.event.Event.{Event}
use Rattle.amo_world.specs.History.{Along, IsRight, Extends, events_of}
use Rattle.amo_book.specs.declared.view.View.{View}
use Rattle.amo_book.specs.declared.view.Share.{Share}
use Rattle.amo_book.specs.Pass.{automaton_after}

-- what lies in a slot: the automaton, or nothing while it is out
abbrev pub Slot : Type 0
Slot = Option Automaton

-- how many words a gate stands from the next one, and how many slots a slot that is used from the next one: sixty-four bytes, so that no
-- two share a line of a cache
abbrev pub stride : ℕ
stride = 8

-- the word that is the gate of the side at a place; the word 0 is the count
abbrev pub gate_of : ℕ → ℕ
gate_of place = stride * (place + 1)

-- the slot of the side at a place
abbrev pub slot_of : ℕ → ℕ
slot_of place = stride * place

-- the side at a place
abbrev pub side_at : List (End × ℕ) → ℕ → End × ℕ
side_at sides place = get_or sides place (Sender, 0)

-- the automaton at a place, after a history
abbrev pub state_at : List (End × ℕ) → ℕ → List Event → Automaton
state_at sides place history = automaton_after (side_at sides place).0 (side_at sides place).1 history

-- what lies in the slot of a place before anything happens
abbrev pub first_slot : List (End × ℕ) → ℕ → Slot
first_slot sides place = Some (state_at sides place [])

-- a slot for each of n places, in which lies what the function tells, with others between them
abbrev pub Spaced : (ℕ → Slot) → ℕ → List Slot → Type 0
Spaced f n slots = (length slots ≡ slot_of n) × ((k : ℕ) → k < n → slice_get slots (slot_of k) ≡ Some (f k))

-- the share of a pass, with the events that it has made
abbrev pub share : ℕ → List Event → Share
share number made = record { number = number; made = made }

-- the events of the pass p are made, and the view has the right to more
abbrev pub Has : List Share → ℕ → List Event → Type 0
Has [] p made = ⊥
Has (x ∷ xs) p made = (x ≡ share p made) ⊎ Has xs p made

-- the shares of n passes from p on, which made no events yet
abbrev pub fresh : ℕ → ℕ → List Share
fresh p zero = []
fresh p (suc n) = share p [] ∷ fresh (suc p) n

-- the view of the first seat of n passes
abbrev pub first_view : ℕ → View
first_view n = record { seen = []; met = []; shares = fresh 0 n; held = None }

-- each event bears a number below n
abbrev pub AllBelow : ℕ → List Event → Type 0
AllBelow n history = Along (λ past e. e.pass < n) history

-- what is true of the view of one seat
pub record Knows (places passes : ℕ) (replay : ℕ → List Event → Automaton) (log : List Event) (holder owner : ℕ → ℕ) (words : List ℕ) (seat : ℕ) (v : View) : Type 0 where
  pub seen : Extends log v.seen
  pub met : Extends log v.met
  pub owns : (p : ℕ) (m : List Event) → Has v.shares p m → (p < passes) × (owner p ≡ seat) × (events_of p log ≡ m)
  pub holds : (k : ℕ) (x : Automaton) → v.held ≡ Some (k, x) → (k < places) × (holder k ≡ seat) × (slice_index words (gate_of k) ≢ 0) × (x ≡ replay k log)
  pub named : (k : ℕ) (x : Automaton) → v.held ≡ Some (k, x) → (p : ℕ) × (m : List Event) × Has v.shares p m

-- `holder` tells which seat holds a side whose gate is not 0, and `owner` which seat has a pass's share
pub record Kept (places passes : ℕ) (replay : ℕ → List Event → Automaton) (s : State Slot View) : Type 0 where
  pub log : List Event
  pub holder : ℕ → ℕ
  pub owner : ℕ → ℕ
  pub right : IsRight log
  pub ours : AllBelow passes log
  pub wide : length s.words ≡ gate_of places
  pub tall : length s.homes ≡ slot_of places
  pub count : slice_index s.words 0 ≡ length log % 2 ^ 64
  pub each : (seat : ℕ) (v : View) → get_elem? s.views seat ≡ some v → Knows places passes replay log holder owner s.words seat v
  pub free : (k : ℕ) → k < places → slice_index s.words (gate_of k) ≡ 0 → get_elem? s.homes (slot_of k) ≡ some (some (Some (replay k log)))
  pub busy : (k : ℕ) → k < places → slice_index s.words (gate_of k) ≢ 0 → (v : View) × (x : Automaton) × (get_elem? s.views (holder k) ≡ some v) × (v.held ≡ Some (k, x))

-- what is true once all have come back: of the history that was seen last, each pass's events, the count, and what lies in the slots
pub record Settled (places passes : ℕ) (replay : ℕ → List Event → Automaton) (v : View) (words : List ℕ) (slots : List Slot) : Type 0 where
  pub log : List Event
  pub right : IsRight log
  pub ours : AllBelow passes log
  pub seen : Extends log v.seen
  pub owns : (p : ℕ) (m : List Event) → Has v.shares p m → events_of p log ≡ m
  pub count : slice_index words 0 ≡ length log % 2 ^ 64
  pub states : (k : ℕ) → k < places → get_elem? slots (slot_of k) ≡ some (Some (replay k log))

-- the view has the share of every pass
abbrev pub HasAll : ℕ → View → Type 0
HasAll passes v = (v.held ≡ None) × ((p : ℕ) → p < passes → (m : List Event) × Has v.shares p m)
