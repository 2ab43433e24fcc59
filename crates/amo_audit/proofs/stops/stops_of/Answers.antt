use Rattle.std.proofs.Common.{arith}
use Rattle.amo_audit.proofs.LeftOut.{first_within, second_within}
use Rattle.amo_audit.proofs.Named.{found_within}
use Rattle.amo_audit.proofs.stops.stops_of.Goals as goal

pub counted-requires-clause-first : goal.counted-requires-clause-first
counted-requires-clause-first c = first_within c.open-ours.result c.open-theirs.result c.in-Ok.stops (omega arith) (omega arith) c.in-Ok.ensures.stop

pub counted-requires-clause-second : goal.counted-requires-clause-second
counted-requires-clause-second c = second_within c.open-ours.result c.open-theirs.result c.in-Ok.stops (omega arith) (omega arith) c.in-Ok.ensures.stop

pub counted-requires-in-Err : goal.counted-requires-in-Err
counted-requires-in-Err c = found_within c.open-ours.result c.open-theirs.result (omega arith) (omega arith) c.in-Err.judgement c.in-Err.ensures.found.0
