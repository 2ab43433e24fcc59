use Rattle.std.proofs.Common.{◌-◌}
use Rattle.amo_telling.specs.Outcomes.{by}
use Rattle.amo_telling.proofs.LineByLine.{IsToldTo}
use Rattle.amo_telling.proofs.puts.told_of.Given as goal

-- the first lines were told of, and these are left
abbrev pub invariant-loop-number : goal.invariant-loop-number
invariant-loop-number l = IsToldTo (by l.fn.report.choice l.fn.report.doubts.now) l.fn.listing l.fn.lines.version l.fn.lines.text.now l.rest l.number l.end l.counts l.told.items

abbrev pub decreases-loop-number : goal.decreases-loop-number
decreases-loop-number l = l.end - l.number
