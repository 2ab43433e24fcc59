use Rattle.std.proofs.Common.{◌≡◌, ◌+◌, ℕ, Some, length, slice_get, vec_capacity}
use Rattle.amo_book.specs.Rule.{Slot}
use Rattle.amo_book.proofs.board.opening.leave_room.Given as goal

abbrev pub invariant-loop-added : goal.invariant-loop-added
invariant-loop-added l = record {
  long : length l.slots.items + 1 ≡ length l.fn.slots.items + l._added;
  kept : (k : ℕ) (slot : Slot) → slice_get l.fn.slots.items k ≡ Some slot → slice_get l.slots.items k ≡ Some slot;
  room : vec_capacity l.slots ≡ vec_capacity l.fn.slots;
}
