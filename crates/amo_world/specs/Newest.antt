-- The events of a history, as a list.
use Rattle.std.specs.Prelude.{List, [], ◌∷◌}
use Rattle.amo_world.specs.declared.event.Event.{Event}
use Rattle.amo_world.specs.declared.history.Newest.{Newest}
use Rattle.amo_world.specs.declared.history.Newest.TheVariants as newest

-- the events, the newest first
abbrev pub events : Newest → List Event
events newest.Nothing = []
events (newest.Event event past) = event.value ∷ past.value
