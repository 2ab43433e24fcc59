use Rattle.std.proofs.Common.{ℕ, Some, true, set, refl, sym, ap, ◌∙◌, arith}
use Rattle.std.proofs.lemmas.Option.{slice_get-get_or}
use Rattle.amo_book.proofs.Gathering.{marks_none, marks_more}
use Rattle.amo_book.proofs.whole.numbers_of.Goals as goal

pub loop-pass-init : goal.loop-pass-init
loop-pass-init c = marks_none c.args.passes.now _ refl

pub loop-pass-preserved : goal.loop-pass-preserved
loop-pass-preserved c = let lt = c.loop-pass-test.true in
    let at = slice_get-get_or c.args.passes.now c.loop-pass.pass-index c.pass-item.result (omega arith) ∙ ap Some (sym c.pass-item.is) in
    marks_more c.args.passes.now c.loop-pass.pass-index c.loop-pass.marks c.mark.new.marks c.pass-item.result at
    (c.mark.ensures ∙ ap (λ (n : ℕ). set c.loop-pass.marks n true) c.number.ensures.number) c.loop-pass.invariant
