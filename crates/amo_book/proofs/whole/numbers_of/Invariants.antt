use Rattle.amo_book.specs.Gathering.{Marks}
use Rattle.amo_book.proofs.whole.numbers_of.Given as goal

abbrev pub invariant-loop-pass : goal.invariant-loop-pass
invariant-loop-pass l = Marks l.passes l.pass-index l.marks
