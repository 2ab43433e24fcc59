use Rattle.std.specs.Prelude.{◌≡◌, ℕ, [], get_or, length}
use Rattle.amo_live.proofs.unanswered.Unanswered.new.Given as goal

-- nothing is kept so far, of each stream that there is
abbrev pub invariant-streams : goal.invariant-streams
invariant-streams l = ((at : ℕ) → get_or l.lines.items at [] ≡ []) × (length l.lines.items ≡ l._stream)
