use Rattle.amo_outcomes.proofs.SenderFollowing.{NoSenderFollowed}
use Rattle.amo_outcomes.proofs.sender_telling.nothing_followed.Given as goal

-- so many followers, of streams in which nothing happened
abbrev pub invariant-loop-place : goal.invariant-loop-place
invariant-loop-place l = NoSenderFollowed l.followers.items l.place
