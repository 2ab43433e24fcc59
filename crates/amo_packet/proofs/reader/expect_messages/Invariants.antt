use Rattle.std.proofs.Common.{◌≡◌, ◌≤◌, ◌-◌}
use Rattle.amo_packet.specs.Fault.{first_of, message_faults}
use Rattle.amo_packet.proofs.reader.expect_messages.Given as goal

abbrev pub invariant-loop : goal.invariant-loop
invariant-loop l = (l.counter ≤ l.fn.count) × (first_of (message_faults (l.fn.count - l.counter) l.rest) ≡ first_of (message_faults l.fn.count l.fn.bytes))
