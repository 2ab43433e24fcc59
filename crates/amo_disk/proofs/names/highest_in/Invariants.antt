use Rattle.std.specs.Prelude.{length}
use Rattle.amo_disk.proofs.names.highest_in.Given as goal

abbrev pub decreases-loop-file : goal.decreases-loop-file
decreases-loop-file l = length l.rest
