use Rattle.std.proofs.Common.{◌+◌, ◌≤◌, length}
use Rattle.amo_text.proofs.Readings.{HasRead}
use Rattle.amo_text.proofs.items.first_malformed.Given as goal

-- so many items were read, each of a byte at least
abbrev pub invariant-loop-rest : goal.invariant-loop-rest
invariant-loop-rest g l = record {
  read : HasRead g.I.LineItem.fields_of g.I.LineItem.InRange l.bytes l.number l.rest;
  counted : l.number + length l.rest ≤ length l.bytes;
}

abbrev pub decreases-loop-rest : goal.decreases-loop-rest
decreases-loop-rest g l = length l.rest
