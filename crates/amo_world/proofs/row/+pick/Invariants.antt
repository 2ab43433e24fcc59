use Rattle.std.proofs.Common.{length}
use Rattle.amo_world.proofs.row.+pick.Given as goal

abbrev pub decreases-pick : goal.decreases-pick
decreases-pick l = length l.from.now
