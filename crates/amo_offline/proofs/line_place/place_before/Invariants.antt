use Rattle.std.proofs.Common.{◌≤◌}
use Rattle.amo_offline.proofs.line_place.place_before.Given as goal

-- it goes on
abbrev pub invariant-loop-left : goal.invariant-loop-left
invariant-loop-left l = l.begin ≤ l.place

abbrev pub decreases-loop-left : goal.decreases-loop-left
decreases-loop-left l = l.left
