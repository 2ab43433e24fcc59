use Rattle.std.proofs.Common.{◌≡◌, ◌<◌, ◌≤◌, ◌+◌, ◌*◌, ◌++◌, ℕ, Some, length, slice_get, vec_capacity}
use Rattle.std.specs.Global.{Vec}
use Rattle.amo_book.specs.Charge.{ChargeState}
use Rattle.amo_host.specs.Division.{IsPart}
use Rattle.amo_host.proofs.room.deal.Given as goal

-- each pump has its part of the charges passed, and room for its part of all
abbrev pub invariant-loop-charge : goal.invariant-loop-charge
invariant-loop-charge l = record {
  can_next : goal.iterator-loop-charge.can_next l.charge-iterator;
  is_finite : goal.iterator-loop-charge.is_finite l.charge-iterator;
  left : l.charge-iterator.rest.len ≡ length l.charge-iterator.rest.items;
  all : l.yielded ++ l.charge-iterator.rest.items ≡ l.fn.charges.items;
  count : length l.parts.items ≡ length l.fn.parts.items;
  last : l.last + 1 ≡ length l.fn.parts.items;
  turn : l.turn < length l.fn.parts.items;
  rounds : (q : ℕ) × (l.turn + length l.fn.parts.items * q ≡ length l.yielded);
  each : (p : ℕ) (part : Vec ChargeState) → slice_get l.parts.items p ≡ Some part → IsPart (length l.fn.parts.items) p l.yielded part.items × (length l.fn.charges.items ≤ length l.fn.parts.items * vec_capacity part);
}
