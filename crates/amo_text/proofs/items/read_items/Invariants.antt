use Rattle.std.proofs.Common.{length}
use Rattle.amo_text.proofs.Readings.{IsReadTo}
use Rattle.amo_text.proofs.items.read_items.Given as goal

-- these items were read
abbrev pub invariant-loop-rest : goal.invariant-loop-rest
invariant-loop-rest g l = IsReadTo g.I.LineItem.fields_of g.I.LineItem.InRange l.bytes l.items.items l.rest

abbrev pub decreases-loop-rest : goal.decreases-loop-rest
decreases-loop-rest g l = length l.rest
