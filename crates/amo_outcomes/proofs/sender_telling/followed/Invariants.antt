use Rattle.std.proofs.Common.{reverse, take}
use Rattle.amo_outcomes.specs.SenderFollower.{SendersFollowed}
use Rattle.amo_outcomes.proofs.sender_telling.followed.Given as goal

-- the events so far were followed
abbrev pub invariant-loop-event : goal.invariant-loop-event
invariant-loop-event l = SendersFollowed l.followers.items (reverse (take l.event-index l.events))
