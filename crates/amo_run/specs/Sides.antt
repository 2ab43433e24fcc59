-- The sides of the streams of a run.
use Rattle.std.specs.Prelude.{◌≡◌, ℕ, zero, suc, ◌+◌, List, [], ◌∷◌, ◌++◌, slice_get, Some}
use Rattle.amo_object.specs.declared.step.End.{End}
use Rattle.amo_object.specs.declared.step.End.TheVariants.{Sender, Receiver}
use Rattle.amo_book.specs.Book.{BookState, Each}
use Rattle.amo_book.specs.Charge.{ChargeState, IsChargeOf}
use Rattle.amo_host.specs.Charges.{CanBeDriven, IsAtRest}

-- this side of so many streams, from stream k on
abbrev pub sides_from : End → ℕ → ℕ → List (End × ℕ)
sides_from side k zero = []
sides_from side k (suc n) = (side, k) ∷ sides_from side (suc k) n

-- both sides of streams 1 to n, the senders first
abbrev pub both_sides : ℕ → List (End × ℕ)
both_sides n = sides_from Sender 1 n ++ sides_from Receiver 1 n

-- how many handshakes of a host may be open
abbrev pub window : ℕ
window = 16

-- the charges are those of this side of the streams from 1 on, at rest, and a pump can drive them
pub record IsHostOf (side : End) (book : BookState) (charges : List ChargeState) : Type 0 where
  pub ours : Each (IsChargeOf book.id book.sides) charges
  pub rest : Each IsAtRest charges
  pub driven : CanBeDriven charges window
  pub streams : (k : ℕ) (c : ChargeState) → slice_get charges k ≡ Some c → (c.side ≡ side) × (c.stream ≡ k + 1)
