use Rattle.std.proofs.Common.{take}
use Rattle.amo_text.specs.Line.{Lacks}
use Rattle.amo_text.proofs.line.cut.Given as goal

-- the byte does not stand before the place reached
abbrev pub invariant-loop-i : goal.invariant-loop-i
invariant-loop-i l = Lacks l.byte (take l.i l.text)
