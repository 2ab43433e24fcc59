-- What is seen of the streams of a history.
use Rattle.std.specs.Prelude.{◌≡◌, ◌↔◌, ◌+◌, ℕ, List, Some, true, reverse, length, slice_get}
use Rattle.amo_world.specs.declared.event.Event.{Event}
use Rattle.amo_world.specs.Served.{calls}
use Rattle.amo_resolve.specs.declared.calls.Seen.{Seen}
use Rattle.amo_resolve.specs.Resolved.{IsNamed}

-- whether an event of these, in the order of time, names the stream, and its calls
pub record IsSeen (seen : Seen) (number : ℕ) (events : List Event) : Type 0 where
  pub named : (seen.is_named ≡ true) ↔ IsNamed number events
  pub calls : seen.calls.items ≡ calls number (reverse events)

-- what is seen of the streams 1 to 256, in that order
pub record AreSeen (streams : List Seen) (events : List Event) : Type 0 where
  pub count : length streams ≡ 256
  pub each : (place : ℕ) (seen : Seen) → slice_get streams place ≡ Some seen → IsSeen seen (place + 1) events
