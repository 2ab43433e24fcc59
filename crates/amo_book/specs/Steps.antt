-- The seat of a pass through one call.
use Rattle.std.specs.Prelude.{◌≡◌, ℕ, ◌+◌, ◌%◌, ◌^◌, List, [], ◌∷◌, length, Some, None}
use Rattle.atomic_table.specs.Seated.{TableId}
use Rattle.atomic_table.specs.declared.shared.Seat.{Seat}
use Rattle.amo_object.specs.declared.step.End.{End}
use Rattle.amo_core.specs.declared.automaton.Automaton.{Automaton}
use Rattle.amo_world.specs.declared.event.Event.{Event}
use Rattle.amo_world.specs.History.{IsRight, Extends, events_of}
use Rattle.amo_book.specs.declared.view.View.{View}
use Rattle.amo_book.specs.Pass.{PassState, automaton_after}
use Rattle.amo_book.specs.Rule.{Slot, share, slot_of}
use Rattle.amo_book.specs.Plays.{Sat, view}

-- it is the same seat of the same table
abbrev pub IsSame : Seat Slot View → Seat Slot View → Type 0
IsSame p q = (q.table_id ≡ p.table_id) × (q.id ≡ p.id)

-- the seat of the pass p between two calls
pub record IsPass (p : ℕ) (m : Sat) : Type 0 where
  pub home : m.1 ≡ []
  pub held : m.0.held ≡ None
  pub own : m.0.shares ≡ share p (events_of p m.0.seen) ∷ []
  pub right : IsRight m.0.seen

-- what contracts see of the pass p, whose seat this is
abbrev pub pass_of : TableId → ℕ → Sat → PassState
pass_of id p m = record { book = id; number = p; seen = m.0.seen }

-- the seat holds the side at the place k, whose state x was moved out of its slot
abbrev pub holding : ℕ → Automaton → Sat → Sat
holding k x m = (view m.0.seen m.0.met m.0.shares (Some (k, x)), (slot_of k, None) ∷ [])

-- the seat holds nothing any more
abbrev pub released : View → Sat
released v = (view v.seen v.met v.shares None, [])

-- the state is one of this side of the stream
abbrev pub IsStateOf : End → ℕ → Automaton → Type 0
IsStateOf side stream x = (log : List Event) × (x ≡ automaton_after side stream log)

-- the event stands last in what is seen now, alone of the pass's, and found the state x
pub record Made (p : ℕ) (m n : Sat) (e : Event) (x : Automaton) (position : ℕ) : Type 0 where
  pub earlier : List Event
  pub seen : n.0.seen ≡ e ∷ earlier
  pub extends : Extends earlier m.0.seen
  pub found : x ≡ automaton_after e.side e.stream earlier
  pub mine_grew : events_of p n.0.seen ≡ e ∷ events_of p m.0.seen
  pub counted : (position + 1) % 2 ^ 64 ≡ length n.0.seen % 2 ^ 64

-- The seat holds the state x still, and has seen the history that left it so. Given home, it is the pass's, with the same events of its own.
pub record Studied (p : ℕ) (side : End) (stream k : ℕ) (x : Automaton) (m n : Sat) : Type 0 where
  pub home : n.1 ≡ (slot_of k, None) ∷ []
  pub held : n.0.held ≡ Some (k, x)
  pub pass : IsPass p (released n.0)
  pub extends : Extends n.0.seen m.0.seen
  pub found : x ≡ automaton_after side stream n.0.seen
  pub mine_stays : events_of p n.0.seen ≡ events_of p m.0.seen
