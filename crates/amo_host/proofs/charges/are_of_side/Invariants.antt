use Rattle.std.proofs.Common.{◌≡◌, ℕ, ◌<◌, Some, slice_get}
use Rattle.amo_book.specs.Charge.{ChargeState}
use Rattle.amo_host.specs.Charges.{IsOfSide}
use Rattle.amo_host.proofs.charges.are_of_side.Given as goal

-- the charges passed are of this side
abbrev pub invariant-loop-charge : goal.invariant-loop-charge
invariant-loop-charge l = (k : ℕ) (c : ChargeState) → k < l.charge-index → slice_get l.charges k ≡ Some c → IsOfSide l.side c
