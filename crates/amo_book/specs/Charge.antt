-- A charge: the right to drive a side of a stream.
use Rattle.std.specs.Prelude.{◌≡◌, ℕ, List, Some, slice_get}
use Rattle.atomic_table.specs.Seated.{TableId}
use Rattle.amo_object.specs.declared.step.End.{End}
use Rattle.amo_core.specs.declared.mode.Mode.{Mode}

-- its book, its place among the book's sides, the side, and the mode that its last answer named
pub record ChargeState : Type 0 where
  pub book : TableId
  pub place : ℕ
  pub side : End
  pub stream : ℕ
  pub mode : Mode

-- the charge is this book's, for the side at its place
abbrev pub IsChargeOf : TableId → List (End × ℕ) → ChargeState → Type 0
IsChargeOf id sides charge = (charge.book ≡ id) × (slice_get sides charge.place ≡ Some (charge.side, charge.stream))
