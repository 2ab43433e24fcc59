use Rattle.amo_book.specs.Gathering.{Covers}
use Rattle.amo_book.proofs.whole.sides_of.Given as goal

abbrev pub invariant-loop-charge : goal.invariant-loop-charge
invariant-loop-charge l = Covers l.charges l.charge-index l.index
