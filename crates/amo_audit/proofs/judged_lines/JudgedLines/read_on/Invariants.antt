use Rattle.std.proofs.Common.{◌≡◌, ◌++◌, false, length, List, ℕ}
use Rattle.amo_audit.specs.Parts.{HasJudged}
use Rattle.amo_audit.proofs.judged_lines.JudgedLines.read_on.Given as goal

-- the lines so far were judged, and these are left
abbrev pub invariant-loop-alloc : goal.invariant-loop-alloc
invariant-loop-alloc l = record {
  version : l.rest.version ≡ l.fn.lines.version;
  good : l.self.is_malformed ≡ false;
  front : (front : List ℕ) × (l.fn.lines.text.now ≡ front ++ l.rest.text.now);
  judged : (body : List ℕ) → HasJudged l.fn.self l.fn.lines.version body l.fn.lines.text.now → HasJudged l.self l.fn.lines.version body l.rest.text.now;
}

abbrev pub decreases-loop-alloc : goal.decreases-loop-alloc
decreases-loop-alloc l = length l.rest.text.now
