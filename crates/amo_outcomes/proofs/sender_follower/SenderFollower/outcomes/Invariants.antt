use Rattle.amo_outcomes.proofs.SenderFollowing.{AreToldOfSender}
use Rattle.amo_outcomes.proofs.sender_follower.SenderFollower.outcomes.Given as goal

-- the first puts are told
abbrev pub invariant-loop-put : goal.invariant-loop-put
invariant-loop-put l = AreToldOfSender l.self l.put l.told.items
