use Rattle.std.specs.Prelude.{◌≡◌}
use Rattle.amo_live.specs.Host.{sides_from}
use Rattle.amo_live.proofs.host.sides_of.Given as goal

-- so far the list has this side of so many streams
abbrev pub invariant-streams : goal.invariant-streams
invariant-streams l = l.sides.items ≡ sides_from l.side 1 l.index
