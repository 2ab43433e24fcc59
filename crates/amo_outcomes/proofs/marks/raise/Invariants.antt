use Rattle.std.proofs.Common.{ℕ, ◌<◌, ◌≤◌}
use Rattle.amo_outcomes.specs.Marks.{AreRaised}
use Rattle.amo_outcomes.proofs.marks.raise.Given as goal

-- the first puts of the run are raised
abbrev pub invariant-loop-put : goal.invariant-loop-put
invariant-loop-put l =
    AreRaised l.mark (record { first = l.fn.run.first; end = l.put }) l.initial.marks.items l.marks.items
    × ((put : ℕ) → l.fn.run.first ≤ put → put < l.put → put < l.fn.run.end) × (l.fn.run.first ≤ l.put)
