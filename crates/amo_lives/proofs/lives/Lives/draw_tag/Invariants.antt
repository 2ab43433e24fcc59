use Rattle.std.proofs.Common.{◌≡◌, ℕ, ◌+◌}
use Rattle.amo_lives.specs.Tag.{AreTaken}
use Rattle.amo_lives.proofs.lives.Lives.draw_tag.Given as goal

-- so many words were drawn, and each was taken
abbrev pub invariant-loop-try : goal.invariant-loop-try
invariant-loop-try g l = record {
  skipped : AreTaken l.self.lives (g.W.Words.to_come l.fn.words) l._try;
  rest : (k : ℕ) → g.W.Words.to_come l.words k ≡ g.W.Words.to_come l.fn.words (k + l._try);
}
