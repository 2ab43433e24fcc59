-- Both hosts: a book, and a world beside it that judges the same events.
use Rattle.std.specs.Prelude.{◌≡◌, List}
use Rattle.amo_world.specs.declared.event.Event.{Event}
use Rattle.amo_world.specs.History.{events_of}

-- the history that the world accepted, and the one that pass 0 has seen of the book
pub record HostsState : Type 0 where
  pub history : List Event
  pub seen : List Event

-- what the world accepted is what pass 0 made
abbrev pub Agree : HostsState → Type 0
Agree hosts = events_of 0 hosts.seen ≡ hosts.history
