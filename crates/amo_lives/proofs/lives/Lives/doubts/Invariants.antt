use Rattle.std.proofs.Common.{◌≡◌, ◌++◌, drop}
use Rattle.amo_lives.specs.Doubt.{doubts, doubts_since}
use Rattle.amo_lives.proofs.lives.Lives.doubts.Given as goal

-- the lines of the lives so far, and those of the others, are those of all
abbrev pub invariant-loop-place : goal.invariant-loop-place
invariant-loop-place l = doubts l.lives l.fn.now ≡ l.spans.items ++ doubts_since l.since (drop l.place l.lives) l.fn.now
