use Rattle.std.proofs.Common.{length, slice_get, below_more, sym, ap, ◌∙◌}
use Rattle.amo_book.proofs.Gathering.{has}
use Rattle.amo_book.proofs.whole.are_all_charges.Goals as goal

pub loop-place-preserved : goal.loop-place-preserved
loop-place-preserved c = below_more _ _ c.loop-place.invariant
    (has c.args.sides.now c.args.charges.now (length c.args.charges.now) c.sides_of-index.result c.loop-place.place c.site_at-site.result.side c.site_at-site.result.stream
    c.in-Some.field-0 c.requires.apart c.requires.own c.sides_of-index.ensures
    (ap (slice_get c.args.sides.now) (sym c.site_at-site.ensures.1) ∙ c.site_at-site.ensures.0) (sym c.find.ensures ∙ c.in-Some.is))
