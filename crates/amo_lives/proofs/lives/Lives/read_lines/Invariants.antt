use Rattle.std.proofs.Common.{length}
use Rattle.amo_lives.specs.Kept.{GoesOn}
use Rattle.amo_lives.proofs.lives.Lives.read_lines.Given as goal

-- so many lines were taken
abbrev pub invariant-loop-text : goal.invariant-loop-text
invariant-loop-text l = GoesOn l.fn.self l.self l.body l.rest

abbrev pub decreases-loop-text : goal.decreases-loop-text
decreases-loop-text l = length l.rest
