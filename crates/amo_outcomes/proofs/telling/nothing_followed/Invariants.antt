use Rattle.amo_outcomes.proofs.Streams.{NothingFollowed}
use Rattle.amo_outcomes.proofs.telling.nothing_followed.Given as goal

-- so many followers, of streams in which nothing happened
abbrev pub invariant-loop-place : goal.invariant-loop-place
invariant-loop-place l = NothingFollowed l.followers.items l.place
