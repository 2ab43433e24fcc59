use Rattle.std.proofs.Common.{◌≤◌, length, drop}
use Rattle.amo_text.specs.Line.{Lacks}
use Rattle.amo_telling.proofs.whole.whole_lines.Given as goal

-- no line ends behind
abbrev pub invariant-loop-end : goal.invariant-loop-end
invariant-loop-end l = (l.end ≤ length l.fn.bytes) × Lacks 10 (drop l.end l.fn.bytes)

abbrev pub decreases-loop-end : goal.decreases-loop-end
decreases-loop-end l = l.end
