-- A book, and how it opens.
use Rattle.std.specs.Prelude.{◌≡◌, ℕ, ◌<◌, ◌≤◌, List, [], ◌∷◌, length, slice_get, Some}
use Rattle.atomic_table.specs.Seated.{TableId}
use Rattle.amo_object.specs.declared.step.End.{End}
use Rattle.amo_object.specs.declared.step.End.TheVariants.{Sender, Receiver}
use Rattle.amo_core.specs.declared.mode.Mode.{Mode}
use Rattle.amo_core.specs.declared.mode.Mode.TheVariants.{Quiet, Idle}
use Rattle.amo_world.specs.Stream.{IsStream}
use Rattle.amo_book.specs.Pass.{PassState}
use Rattle.amo_book.specs.Charge.{ChargeState, IsChargeOf}

-- a book's own name, the sides that it was opened with, and how many passes it has
pub record BookState : Type 0 where
  pub id : TableId
  pub sides : List (End × ℕ)
  pub passes : ℕ

-- a fact holds of each element
abbrev pub Each : {A : Type 0} → (A → Type 0) → List A → Type 0
Each P [] = Unit {0}
Each P (x ∷ xs) = P x × Each P xs

-- the list has n elements, the one at each place the function's
abbrev pub Lists : {A : Type 0} → (ℕ → A) → ℕ → List A → Type 0
Lists f n xs = (length xs ≡ n) × ((k : ℕ) → k < n → slice_get xs k ≡ Some (f k))

-- no side stands twice
abbrev pub Apart : List (End × ℕ) → Type 0
Apart sides = (i j : ℕ) (side : End × ℕ) → slice_get sides i ≡ Some side → slice_get sides j ≡ Some side → i ≡ j

-- there is a side, and each is one of a host's streams, and stands once
pub record AreLawful (sides : List (End × ℕ)) : Type 0 where
  pub some : 0 < length sides
  pub streams : (k : ℕ) (side : End) (stream : ℕ) → slice_get sides k ≡ Some (side, stream) → IsStream stream
  pub apart : Apart sides

-- what a book may be opened with
pub record IsLawful (sides : List (End × ℕ)) (passes : ℕ) : Type 0 where
  pub sides_are : AreLawful sides
  pub two : 2 ≤ passes
  pub many : passes ≤ 64

-- a pass that has seen nothing
abbrev pub first_pass : TableId → ℕ → PassState
first_pass id number = record { book = id; number = number; seen = [] }

-- at rest
abbrev pub first_mode : End → Mode
first_mode Sender = Quiet
first_mode Receiver = Idle

-- the charge of a side, at rest
abbrev pub first_charge : TableId → ℕ → End → ℕ → ChargeState
first_charge id place side stream = record { book = id; place = place; side = side; stream = stream; mode = first_mode side }

-- each place has its charge, in the order of the sides
abbrev pub AreFirstCharges : TableId → List (End × ℕ) → List ChargeState → Type 0
AreFirstCharges id sides charges = (length charges ≡ length sides)
    × ((k : ℕ) (side : End) (stream : ℕ) → slice_get sides k ≡ Some (side, stream) → slice_get charges k ≡ Some (first_charge id k side stream))

-- the book has these sides and so many passes, numbered from 0, that have seen nothing, and a charge for each side at rest
pub record Opens (sides : List (End × ℕ)) (passes : ℕ) (book : BookState) (numbered : List PassState) (charges : List ChargeState) : Type 0 where
  pub sides_are : book.sides ≡ sides
  pub passes_are : book.passes ≡ passes
  pub numbered_are : Lists (first_pass book.id) passes numbered
  pub charges_are : AreFirstCharges book.id sides charges
  pub passes_belong : Each (λ p. p.book ≡ book.id) numbered
  pub charges_belong : Each (IsChargeOf book.id book.sides) charges
