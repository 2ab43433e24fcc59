use Rattle.std.proofs.Common.{◌≡◌, ◌≤◌, ◌<◌, ℕ, Some, length, slice_get, vec_capacity}
use Rattle.amo_object.specs.declared.step.End.{End}
use Rattle.amo_book.specs.Book.{first_charge}
use Rattle.amo_book.specs.Steps.{IsSame}
use Rattle.amo_book.proofs.board.Board.deal_charges.Given as goal

abbrev pub invariant-loop-place : goal.invariant-loop-place
invariant-loop-place l = record {
  same : IsSame l.fn.root l.root;
  long : length l.charges.items ≡ l.place;
  dealt : (k : ℕ) (side : End) (stream : ℕ) → k < l.place → slice_get l.self.setup.sides.items k ≡ Some (side, stream)
      → slice_get l.charges.items k ≡ Some (first_charge l.self.table.shared.table_id k side stream);
  room : length l.self.setup.sides.items ≤ vec_capacity l.charges;
}
