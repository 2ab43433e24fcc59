use Rattle.std.proofs.Common.{arith}
use Rattle.amo_audit.proofs.Beginnings.{finds_within, reach_within}
use Rattle.amo_audit.proofs.outcomes.outcomes_of.Goals as goal

pub counted-requires : goal.counted-requires
counted-requires c = reach_within c.open-ours.result c.open-theirs.result (omega arith) (omega arith) c.in-Ok.field-0.reach _ c.in-Ok.ensures.told

pub counted-requires-in-Err : goal.counted-requires-in-Err
counted-requires-in-Err c = finds_within c.open-ours.result c.open-theirs.result (omega arith) (omega arith) c.in-Err.judgement c.in-Err.ensures.found
