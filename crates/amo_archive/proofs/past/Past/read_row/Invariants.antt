use Rattle.std.proofs.Common.{◌≡◌, List, length}
use Rattle.amo_journal.specs.declared.numbered.Numbered.{Numbered}
use Rattle.amo_archive.specs.Past.{GoesOn, HasTaken}
use Rattle.amo_archive.proofs.past.Past.read_row.Given as goal

-- the lines so far were taken
abbrev pub invariant-loop-alloc : goal.invariant-loop-alloc
invariant-loop-alloc l = record {
  version : l.rest.version ≡ l.fn.lines.version;
  read : (past : List Numbered) → HasTaken l.fn.self past → GoesOn l.fn.lines.version past l.rest.text.now l.fn.lines.text.now (HasTaken l.self);
}

abbrev pub decreases-loop-alloc : goal.decreases-loop-alloc
decreases-loop-alloc l = length l.rest.text.now
