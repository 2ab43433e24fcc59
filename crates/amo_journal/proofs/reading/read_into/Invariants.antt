use Rattle.std.proofs.Common.{◌≡◌, length}
use Rattle.amo_journal.specs.Gathering.{Gathers}
use Rattle.amo_journal.proofs.ReadOn.{HasRead}
use Rattle.amo_journal.proofs.reading.read_into.Given as goal

-- so many lines were read, and their events taken
abbrev pub invariant-loop-rest : goal.invariant-loop-rest
invariant-loop-rest g l = record {
  version : l.rest.version ≡ l.fn.lines.version;
  read : HasRead l.fn.lines.version l.fn.lines.text.now l.rest.text.now l.reading.lines (Gathers g.T.TakeEvents.HasTaken l.reading.taker l.reading.lines l.reading.gap);
}

abbrev pub decreases-loop-rest : goal.decreases-loop-rest
decreases-loop-rest g l = length l.rest.text.now
