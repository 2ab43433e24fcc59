use Rattle.std.specs.Prelude.{◌≡◌, length}
use Rattle.amo_run.proofs.whole_run.ends.Given as goal

-- so far there are both ends of these channels
abbrev pub invariant-channels : goal.invariant-channels
invariant-channels g l = (length l.wires.senders.items ≡ l.channel-index) × (length l.wires.receivers.items ≡ l.channel-index)
