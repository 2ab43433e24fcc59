use Rattle.std.proofs.Common.{◌≡◌, length}
use Rattle.amo_window.specs.Timers.{due}
use Rattle.amo_window.proofs.due.DueIterator.next.Given as goal

-- only timers that are not due were passed over
abbrev pub invariant-loop-timer : goal.invariant-loop-timer
invariant-loop-timer l = due l.self-inside.time l.self-inside.timers.now ≡ l.fn.self

abbrev pub decreases-loop-timer : goal.decreases-loop-timer
decreases-loop-timer l = length l.self-inside.timers.now
