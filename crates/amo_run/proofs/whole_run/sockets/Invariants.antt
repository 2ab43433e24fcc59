use Rattle.std.specs.Prelude.{◌≡◌, length}
use Rattle.amo_run.proofs.whole_run.sockets.Given as goal

-- so far there are the sockets of these pumps
abbrev pub invariant-pumps : goal.invariant-pumps
invariant-pumps g l = (length l.wires.senders.items ≡ l.pump) × (length l.wires.receivers.items ≡ l.pump)
