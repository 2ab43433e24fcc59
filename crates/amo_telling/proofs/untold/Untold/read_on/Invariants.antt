use Rattle.std.proofs.Common.{◌≡◌, List, ℕ, length}
use Rattle.amo_journal.specs.declared.numbered.Numbered.{Numbered}
use Rattle.amo_telling.specs.Untold.{HasRead}
use Rattle.amo_telling.proofs.Untolds.{IsFurther}
use Rattle.amo_telling.proofs.untold.Untold.read_on.Given as goal

-- so many lines were read
abbrev pub invariant-loop-rest : goal.invariant-loop-rest
invariant-loop-rest l = record {
  version : l.rest.version ≡ l.fn.lines.version;
  read : (next : ℕ) (past : List Numbered) → HasRead l.fn.self next past → IsFurther next past l.fn.lines l.rest.text.now l.self;
}

abbrev pub decreases-loop-rest : goal.decreases-loop-rest
decreases-loop-rest l = length l.rest.text.now
