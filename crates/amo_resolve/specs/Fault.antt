-- The number of each fault, and what it says of a history.
use Rattle.std.specs.Prelude.{◌≡◌, ℕ, List, reverse, take, slice_get, Some}
use Rattle.amo_world.specs.declared.event.Event.{Event}
use Rattle.amo_world.specs.declared.fault.WorldFault.{WorldFault}
use Rattle.amo_world.specs.declared.fault.WorldFault.TheVariants as refusal
use Rattle.amo_world.specs.History.{IsRight, IsHonest, IsFresh}
use Rattle.amo_world.specs.World.{Refuses}
use Rattle.amo_resolve.specs.declared.fault.ResolveFault.{ResolveFault}
use Rattle.amo_resolve.specs.declared.fault.ResolveFault.TheVariants.{NoMemory, WrongReply, Unsent, Repeat}

abbrev pub fault_code : ResolveFault → ℕ
fault_code NoMemory = 9
fault_code (WrongReply place) = 21
fault_code (Unsent place) = 22
fault_code (Repeat place) = 23

-- the events before this place are right, honest and fresh, and the one at it is refused for this reason
pub record IsFirstRefused (events : List Event) (place : ℕ) (fault : WorldFault) : Type 0 where
  pub event : Event
  pub here : slice_get events place ≡ Some event
  pub right : IsRight (reverse (take place events))
  pub honest : IsHonest (reverse (take place events))
  pub fresh : IsFresh (reverse (take place events))
  pub refused : Refuses (reverse (take place events)) event fault

-- what a fault says of events in the order of time; out of memory says nothing
abbrev pub IsFault : List Event → ResolveFault → Type 0
IsFault events NoMemory = Unit {0}
IsFault events (WrongReply place) = IsFirstRefused events place refusal.WrongReply
IsFault events (Unsent place) = IsFirstRefused events place refusal.Unsent
IsFault events (Repeat place) = IsFirstRefused events place refusal.Repeat
