use Rattle.std.proofs.Common.{◌≡◌, ◌-◌, ◌≤◌, length, take}
use Rattle.std.specs.Io.KnownBytes.{Appends}
use Rattle.amo_disk.proofs.gathered.Gathered.hand_on.Given as goal

-- the first of the bytes that wait were handed on, and no call failed
abbrev pub invariant-loop-done : goal.invariant-loop-done
invariant-loop-done g l = record {
  within : l.done ≤ length l.self-inside.room.items;
  appended : Appends (g.S.Sink.written l.initial.self-inside.sink) (g.S.Sink.written l.self-inside.sink) (take l.done l.self-inside.room.items);
  calm : g.S.Sink.failures l.self-inside.sink ≡ g.S.Sink.failures l.initial.self-inside.sink;
  same : l.self-inside.room ≡ l.initial.self-inside.room;
}

-- how many of them are left
abbrev pub decreases-loop-done : goal.decreases-loop-done
decreases-loop-done g l = length l.self-inside.room.items - l.done
