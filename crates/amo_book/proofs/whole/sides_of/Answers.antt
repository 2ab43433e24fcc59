use Rattle.std.proofs.Common.{Some, sym, ap, ◌∙◌, arith}
use Rattle.std.proofs.lemmas.Option.{slice_get-get_or}
use Rattle.amo_book.proofs.Gathering.{grows}
use Rattle.amo_book.proofs.whole.sides_of.Goals as goal

pub loop-charge-preserved : goal.loop-charge-preserved
loop-charge-preserved c = let lt = c.loop-charge-test.true in
    let at = slice_get-get_or c.args.charges.now c.loop-charge.charge-index c.charge-item.result (omega arith) ∙ ap Some (sym c.charge-item.is) in
    grows c.args.charges.now c.loop-charge.charge-index c.loop-charge.index c.add.new.self c.charge-item.result c.site.result c.add.result
    at c.site.ensures.site c.site.ensures.within c.add.ensures.added c.add.ensures.refused c.add.ensures.same c.loop-charge.invariant
