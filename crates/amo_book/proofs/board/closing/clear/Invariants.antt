use Rattle.std.proofs.Common.{◌≡◌, ℕ, ◌<◌, ◌≤◌, ◌⊎◌, false, get_or}
use Rattle.std.specs.Slots.{slots_items, slots_filled, slots_len}
use Rattle.amo_book.proofs.board.closing.clear.Given as goal

abbrev pub invariant-loop-index : goal.invariant-loop-index
invariant-loop-index l = record {
  items : slots_items l.closed.slots ≡ slots_items l.fn.closed.slots;
  wide : slots_len l.closed.slots ≡ slots_len l.fn.closed.slots;
  begun : l.from ≤ l.index;
  cleared : (k : ℕ) → l.from ≤ k → k < l.index → get_or (slots_filled l.closed.slots) k false ≡ false;
  others : (k : ℕ) → (k < l.from) ⊎ (l.index ≤ k) → get_or (slots_filled l.closed.slots) k false ≡ get_or (slots_filled l.fn.closed.slots) k false;
}
