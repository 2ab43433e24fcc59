use Rattle.amo_book.specs.Closed.{AllCharges}
use Rattle.amo_book.proofs.whole.are_all_charges.Given as goal

abbrev pub invariant-loop-place : goal.invariant-loop-place
invariant-loop-place l = AllCharges l.charges l.place
