use Rattle.std.proofs.Common.{◌≡◌, ◌+◌, length, sym, ap, subst, arith}
use Rattle.amo_host.specs.Host.{Host}
use Rattle.amo_host.proofs.AtStreamLemmas.{IsEarliest, earliest-next, earliest_is_next}
use Rattle.amo_host.proofs.agenda.Agenda.next_due.Goals as goal

pub loop-place-preserved : goal.loop-place-preserved
loop-place-preserved c =
    subst (IsEarliest c.args.self.now (c.loop-place.place + 1)) (sym c.earlier-least.ensures)
    (earliest-next c.args.self.now c.loop-place.place c.loop-place.least c.time_in.result c.loop-place.invariant c.time_in.ensures.found c.time_in.ensures.absent)

pub returns : goal.returns
returns c =
    let count : length c.self.inside.modes.items ≡ length c.args.self.now.modes = ap (λ (g : Host). length g.modes) c.self.view_is in
    earliest_is_next c.args.self.now c.loop-place.least c.loop-place.place (omega (arith, c.loop-place-test.false, c.len-place-end.ensures, count)) c.loop-place.invariant
