use Rattle.std.proofs.Common.{below_more, sym}
use Rattle.std.specs.Prelude.{IsTrue, slice_index}
use Rattle.amo_lives.specs.Boot.{fits, form}
use Rattle.amo_lives.proofs.boot.is_boot_id.Goals as goal

pub loop-place-preserved : goal.loop-place-preserved
loop-place-preserved c = below_more (λ k. IsTrue (fits (slice_index form k) (slice_index c.args.text.now k))) c.loop-place.place c.loop-place.invariant (sym c.if-not-fits.ensures)
