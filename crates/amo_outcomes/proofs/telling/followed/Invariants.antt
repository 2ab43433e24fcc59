use Rattle.std.proofs.Common.{reverse, take}
use Rattle.amo_outcomes.specs.Told.{AreFollowed}
use Rattle.amo_outcomes.proofs.telling.followed.Given as goal

-- the events so far were followed
abbrev pub invariant-loop-event : goal.invariant-loop-event
invariant-loop-event l = AreFollowed l.followers.items (reverse (take l.event-index l.events))
