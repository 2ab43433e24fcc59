-- Both hosts, as a merge keeps them.
use Rattle.std.specs.Prelude.{◌≡◌, ℕ, ◌+◌, Some, List, length, slice_get}
use Rattle.amo_world.specs.declared.event.Event.{Event}
use Rattle.amo_world.specs.History.{stream_after}
use Rattle.amo_audit.specs.declared.sides.Sides.{Sides}
use Rattle.amo_audit.specs.Sides as sides

-- all streams are as they are after a history
pub record Represents (streams : List Sides) (past : List Event) : Type 0 where
  pub count : length streams ≡ 256
  pub each : (place : ℕ) (kept : Sides) → slice_get streams place ≡ Some kept → sides.Represents kept (stream_after (place + 1) past)
