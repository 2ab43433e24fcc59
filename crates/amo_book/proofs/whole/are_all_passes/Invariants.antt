use Rattle.amo_book.specs.Closed.{AllPasses}
use Rattle.amo_book.proofs.whole.are_all_passes.Given as goal

abbrev pub invariant-loop-number : goal.invariant-loop-number
invariant-loop-number l = AllPasses l.passes l.number
