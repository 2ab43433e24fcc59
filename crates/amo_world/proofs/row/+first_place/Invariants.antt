use Rattle.std.proofs.Common.{length}
use Rattle.amo_world.proofs.row.+first_place.Given as goal

abbrev pub decreases-first_place : goal.decreases-first_place
decreases-first_place l = length l.found.now
