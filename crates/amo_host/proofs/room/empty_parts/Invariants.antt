use Rattle.std.proofs.Common.{◌≡◌, ◌≤◌, ◌*◌, ℕ, [], Some, length, slice_get, vec_capacity}
use Rattle.std.specs.Global.{Vec}
use Rattle.amo_book.specs.Charge.{ChargeState}
use Rattle.amo_host.proofs.room.empty_parts.Given as goal

-- the pumps passed have room for their charges, and there is room for all
abbrev pub invariant-loop-place : goal.invariant-loop-place
invariant-loop-place l = record {
  count : length l.parts.items ≡ l._place;
  room : vec_capacity l.parts ≡ l.pumps;
  each : (p : ℕ) (part : Vec ChargeState) → slice_get l.parts.items p ≡ Some part → (part.items ≡ []) × (l.charges ≤ l.pumps * vec_capacity part);
}
