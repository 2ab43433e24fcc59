use Rattle.amo_outcomes.proofs.Streams.{AreTold}
use Rattle.amo_outcomes.proofs.follower.Follower.outcomes.Given as goal

-- the first puts are told
abbrev pub invariant-loop-put : goal.invariant-loop-put
invariant-loop-put l = AreTold l.self l.put l.told.items
