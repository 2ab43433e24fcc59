use Rattle.std.proofs.Common.{◌≡◌, [], replicate}
use Rattle.amo_packet.proofs.batch.blanks.Given as goal

abbrev pub invariant-loop : goal.invariant-loop
invariant-loop l = l.messages.items ≡ replicate l.counter []
