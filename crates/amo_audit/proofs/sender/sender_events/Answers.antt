use Rattle.std.proofs.Common.{arith}
use Rattle.amo_audit.proofs.Senders.{sender_within}
use Rattle.amo_audit.proofs.sender.sender_events.Goals as goal

pub counted-requires : goal.counted-requires
counted-requires c = sender_within c.open-lines.result (omega arith) c.in-Err.found c.in-Err.ensures.found.0
