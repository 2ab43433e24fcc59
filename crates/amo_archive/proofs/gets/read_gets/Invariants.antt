use Rattle.std.proofs.Common.{◌≡◌, List, length}
use Rattle.amo_journal.specs.declared.numbered.Numbered.{Numbered}
use Rattle.amo_archive.specs.Records.{BeginsWith, Tells}
use Rattle.amo_archive.proofs.gets.read_gets.Given as goal

-- the lines so far were read, and what they tell
abbrev pub invariant-loop-alloc : goal.invariant-loop-alloc
invariant-loop-alloc l = record {
  version : l.rest.version ≡ l.fn.lines.version;
  read : (past : List Numbered) × BeginsWith l.fn.lines.version past l.rest.text.now l.fn.lines.text.now × Tells l.fn.stream l.fn.after past l.page;
}

abbrev pub decreases-loop-alloc : goal.decreases-loop-alloc
decreases-loop-alloc l = length l.rest.text.now
