use Rattle.std.proofs.Common.{◌≡◌, ℕ, ◌<◌, ◌≤◌, Some, true, false, length, get_or, slice_get, vec_capacity}
use mathlib.Core.Option.{some}
use lib.ListN.{get_elem?}
use Rattle.std.specs.Slots.{slots_items, slots_filled, slots_len}
use Rattle.amo_core.specs.declared.automaton.Automaton.{Automaton}
use Rattle.amo_book.specs.Rule.{slot_of}
use Rattle.amo_book.proofs.board.Board.end.Given as goal

abbrev pub invariant-loop-place : goal.invariant-loop-place
invariant-loop-place l = record {
  items : slots_items l.closed.slots ≡ slots_items l.initial.closed.slots;
  wide : slots_len l.closed.slots ≡ slots_len l.initial.closed.slots;
  full : (j : ℕ) → slot_of l.place ≤ j → j < slots_len l.closed.slots → get_or (slots_filled l.closed.slots) j false ≡ true;
  empty : (j : ℕ) → j < slot_of l.place → get_or (slots_filled l.closed.slots) j false ≡ false;
  long : length l.lasts.items ≡ l.place;
  taken : (j : ℕ) (x : Automaton) → slice_get l.lasts.items j ≡ Some x → get_elem? (slots_items l.initial.closed.slots) (slot_of j) ≡ some (Some x);
  room : length l.setup.sides.items ≤ vec_capacity l.lasts;
}
