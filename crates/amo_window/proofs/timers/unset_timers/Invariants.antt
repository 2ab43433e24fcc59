use Rattle.std.proofs.Common.{◌≡◌, map, take, length, vec_capacity}
use Rattle.amo_window.specs.Timers.{resting}
use Rattle.amo_window.proofs.timers.unset_timers.Given as goal

-- the streams passed have their timers, and there is room for all
abbrev pub invariant-loop-stream : goal.invariant-loop-stream
invariant-loop-stream l =
    record { each : l.timers.items ≡ map (resting l.pace) (take l.stream-index l.streams); room : vec_capacity l.timers ≡ length l.streams }
