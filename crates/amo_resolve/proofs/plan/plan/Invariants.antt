use Rattle.std.proofs.Common.{◌≡◌, ◌≤◌, ◌+◌, drop, take, length}
use Rattle.amo_object.specs.Delivery.{messages_got}
use Rattle.amo_resolve.specs.Plan.{AreBorders}
use Rattle.amo_resolve.proofs.Planning.{IsPlannedFrom}
use Rattle.amo_resolve.proofs.plan.plan.Given as goal

-- the calls from here on are planned
abbrev pub invariant-loop-place : goal.invariant-loop-place
invariant-loop-place l = record {
  within : l.place ≤ length l.calls;
  planned : IsPlannedFrom l.calls l.marks.items l.kept.items l.ahead l.place;
  got : drop l.first l.got ≡ messages_got (drop l.place l.calls);
  first : l.first ≡ length (messages_got (take l.place l.calls));
  borders : AreBorders l.got (l.first + l.ahead.here) l.borders.lengths.items;
  counted : length l.borders.lengths.items ≡ l.ahead.here + 1;
}

abbrev pub decreases-loop-place : goal.decreases-loop-place
decreases-loop-place l = l.place
