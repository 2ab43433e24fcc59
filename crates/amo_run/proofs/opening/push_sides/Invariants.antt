use Rattle.std.specs.Prelude.{◌≡◌, ◌++◌}
use Rattle.amo_run.specs.Sides.{sides_from}
use Rattle.amo_run.proofs.opening.push_sides.Given as goal

-- so far the list has grown by the sides of these streams
abbrev pub invariant-streams : goal.invariant-streams
invariant-streams l = l.sides.items ≡ l.initial.sides.items ++ sides_from l.side 1 l.index
