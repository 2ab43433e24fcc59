use Rattle.std.proofs.Common.{◌≡◌, ◌≤◌, length}
use Rattle.amo_window.proofs.TimersLemmas.{first_hastened}
use Rattle.amo_window.proofs.timers.Timers.hasten.Given as goal

-- the streams passed begin anew
abbrev pub invariant-loop-place : goal.invariant-loop-place
invariant-loop-place l =
    record { anew : l.self-inside.timers.items ≡ first_hastened l.now l.place l.initial.self-inside.timers.items; within : l.place ≤ length l.initial.self-inside.timers.items }
