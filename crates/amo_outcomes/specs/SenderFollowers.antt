-- Senders' own events that were followed, as they are kept.
use Rattle.std.specs.Prelude.{List}
use Rattle.amo_world.specs.declared.event.Event.{Event}
use Rattle.amo_outcomes.specs.declared.sender_followers.SenderFollowers.{SenderFollowers}
use Rattle.amo_outcomes.specs.SenderFollower.{SendersFollowed}

-- these events were followed, the newest first, and no others
abbrev pub HaveFollowedSenders : SenderFollowers → List Event → Type 0
HaveFollowedSenders followers past = SendersFollowed followers.of_streams.items past
