use Rattle.std.proofs.Common.{◌≡◌, true, false, below_more, arith}
use Rattle.amo_book.proofs.Gathering.{unmarked}
use Rattle.amo_book.proofs.whole.are_all_passes.Goals as goal

pub returns-then-not-marks-number : goal.returns-then-not-marks-number
returns-then-not-marks-number c = let lt = c.loop-number-test.true in let few = c.requires in (
  (λ yes. let never : false ≡ true = yes in absurd (cc)),
  (λ all. absurd (unmarked c.args.passes.now c.numbers_of-marks.result c.loop-number.number c.args.count c.numbers_of-marks.ensures lt (omega arith) c.if-not-marks-number.true all)),
)

pub loop-number-preserved : goal.loop-number-preserved
loop-number-preserved c =
    below_more _ _ c.loop-number.invariant (c.numbers_of-marks.ensures.kept c.loop-number.number c.if-not-marks-number.false)
