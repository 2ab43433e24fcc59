use Rattle.std.proofs.Common.{◌≡◌, ◌≤◌, ◌*◌, ℕ, [], arith, vec_capacity}
use Rattle.std.specs.Global.{Vec}
use Rattle.std.proofs.lemmas.Grind.{div_ceil_times}
use Rattle.std.proofs.lemmas.List.{length_push}
use Rattle.amo_book.specs.Charge.{ChargeState}
use Rattle.amo_host.proofs.PartLemmas.{placed_push}
use Rattle.amo_host.proofs.room.empty_parts.Goals as goal

pub loop-place-preserved : goal.loop-place-preserved
loop-place-preserved c =
    let i = c.loop-place.invariant in
    let pushed = c.push_reserved.ensures in
    let made = c.in_ok-with_capacity in
    let Fits : ℕ → Vec ChargeState → Type 0 = λ p part. (part.items ≡ []) × (c.args.charges ≤ c.args.pumps * vec_capacity part) in
    let enough = (div_ceil_times c.args.charges c.args.pumps c.requires).0 in
    record {
      count = rw (pushed.items, length_push) (omega (arith, i.count));
      room = omega (arith, pushed.capacity, i.room);
      each = rw pushed.items (placed_push Fits c.loop-place.parts.items made.field-0 i.each (made.ensures.items, rw (made.ensures.exact, c.div_ceil.ensures) (omega (arith, enough))));
    }
