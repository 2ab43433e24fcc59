use Rattle.amo_replay.proofs.Places.{FirstSides}
use Rattle.amo_replay.proofs.sides.all_sides.Given as goal

-- the sides of the places so far
abbrev pub invariant-loop-place : goal.invariant-loop-place
invariant-loop-place l = FirstSides l.place l.sides.items
