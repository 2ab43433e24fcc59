use Rattle.std.proofs.Common.{ℕ, arith, subst, sym}
use Rattle.amo_host.specs.Host.{Host}
use Rattle.amo_host.specs.Room.{IsHostOfPart}
use Rattle.amo_host.proofs.PartLemmas.{placed_push}
use Rattle.std.proofs.lemmas.List.{length_push}
use Rattle.amo_host.proofs.room.agendas_of.Goals as goal

pub loop-place-preserved : goal.loop-place-preserved
loop-place-preserved c =
    let i = c.loop-place.invariant in
    let pushed = c.push_reserved.ensures in
    let Fits : ℕ → Host → Type 0 = λ p h. IsHostOfPart c.args.side c.args.modes.now c.args.window c.args.pumps p h in
    let new = subst (λ (p : ℕ). Fits p c.in_ok-agenda_of_part.field-0) (sym i.count) c.in_ok-agenda_of_part.ensures in
    record {
      count = rw (pushed.items, length_push) (omega (arith, i.count));
      room = omega (arith, pushed.capacity, i.room);
      each = rw pushed.items (placed_push Fits c.loop-place.agendas.items c.in_ok-agenda_of_part.field-0 i.each new);
    }
