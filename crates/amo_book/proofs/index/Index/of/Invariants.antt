use Rattle.amo_book.proofs.Indexing.{IndexTo}
use Rattle.amo_book.proofs.index.Index.of.Given as goal

abbrev pub invariant-loop-place : goal.invariant-loop-place
invariant-loop-place l = IndexTo l.sides l.place l.index
