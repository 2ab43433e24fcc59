-- A history that was followed, as it is kept.
use Rattle.std.specs.Prelude.{List}
use Rattle.amo_world.specs.declared.event.Event.{Event}
use Rattle.amo_outcomes.specs.declared.followers.Followers.{Followers}
use Rattle.amo_outcomes.specs.Told.{AreFollowed}

-- these events were followed, the newest first, and no others
abbrev pub HaveFollowed : Followers → List Event → Type 0
HaveFollowed followers past = AreFollowed followers.of_streams.items past
