-- Which sides of which streams have events in a list.
use Rattle.std.specs.Prelude.{◌≡◌, ◌↔◌, ℕ, ◌+◌, ◌-◌, ◌*◌, Bool, false, List, length, IsTrue}
use Rattle.std.specs.List.{Contains, slice_index_or}
use Rattle.amo_object.specs.declared.step.End.{End}
use Rattle.amo_object.specs.declared.step.End.TheVariants.{Sender, Receiver}
use Rattle.amo_world.specs.declared.event.Event.{Event}

-- the place of an event's side among all sides of all streams
abbrev pub end_number : End → ℕ
end_number Sender = 0
end_number Receiver = 1

abbrev pub place_of : Event → ℕ
place_of e = 2 * (e.stream - 1) + end_number e.side

-- exactly the sides of these events are marked
abbrev pub Marks : List Bool → List Event → Type 0
Marks has events = (place : ℕ) → IsTrue (slice_index_or has place false) ↔ ((e : Event) × Contains events e × (place_of e ≡ place))

-- and there is a place for each side
abbrev pub MarksAll : List Bool → List Event → Type 0
MarksAll has events = (length has ≡ 512) × Marks has events
