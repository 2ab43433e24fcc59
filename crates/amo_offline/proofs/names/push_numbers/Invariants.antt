use Rattle.std.proofs.Common.{length}
use Rattle.amo_offline.proofs.names.push_numbers.Given as goal

abbrev pub decreases-loop-name : goal.decreases-loop-name
decreases-loop-name l = length l.rest
