use Rattle.std.proofs.Common.{length, ◌-◌, ◌≡◌, ◌≤◌, take}
use Rattle.std.specs.Io.KnownBytes.{Appends}
use Rattle.amo_text.proofs.sink.write_all.Given as goal

-- the first bytes were appended, and no call failed
abbrev pub invariant-loop-done : goal.invariant-loop-done
invariant-loop-done g l = record {
  within : l.done ≤ length l.bytes;
  appended : Appends (g.W.Sink.written l.initial.sink) (g.W.Sink.written l.sink) (take l.done l.bytes);
  calm : g.W.Sink.failures l.sink ≡ g.W.Sink.failures l.initial.sink;
}

-- how many bytes are left
abbrev pub decreases-loop-done : goal.decreases-loop-done
decreases-loop-done g l = length l.bytes - l.done
