use Rattle.std.proofs.Common.{◌≡◌, below_more, get_or, length, sym, ap, ◌∙◌, subst, ◌<◌, arith}
use Rattle.amo_host.specs.Host.{Host, IsQuiet, in_rotation}
use Rattle.amo_host.proofs.HostLemmas.{quiet_read, read_quiet, none_quiet}
use Rattle.amo_host.proofs.agenda.Agenda.next_start.Goals as goal

-- a charge that is not at rest was met in the rotation
pub loop-step-preserved : goal.loop-step-preserved
loop-step-preserved c =
    let h = c.args.self.now in
    let place = c.in_rotation-place.result in
    let l = c.index.result.now in
    let read : l ≡ get_or h.modes place l = c.index.ensures ∙ ap (λ (g : Host). get_or g.modes place l) c.self.view_is in
    below_more _ _ c.loop-step.invariant (λ (q : IsQuiet h (in_rotation h c.loop-step.step)).
    let yes = c.is_quiet.ensures.1 (read_quiet h place l c.in_rotation-place.ensures.within read (subst (IsQuiet h) (sym c.in_rotation-place.ensures.place) q)) in
    absurd (cc (yes, c.if-is_quiet.false)))

pub returns-then-is_quiet : goal.returns-then-is_quiet
returns-then-is_quiet c =
    let h = c.args.self.now in
    let place = c.in_rotation-place.result in
    let l = c.index.result.now in
    let read : l ≡ get_or h.modes place l = c.index.ensures ∙ ap (λ (g : Host). get_or g.modes place l) c.self.view_is in
    let count : length c.self.inside.modes.items ≡ length h.modes = ap (λ (g : Host). length g.modes) c.self.view_is in
    record {
      found = record {
        may = rw (← c.self.view_is) (record { sender = c.is_sender.ensures.0 c.if-not-is_sender.false; free = c.is_free.ensures.free.0 c.if-not-is_free.false });
        step = c.loop-step.step;
        within = omega (arith, count);
        here = c.in_rotation-place.ensures.place;
        quiet = quiet_read h place l c.in_rotation-place.ensures.within read (c.is_quiet.ensures.0 c.if-is_quiet.true);
        first = c.loop-step.invariant;
      };
      none = tt;
    }

pub returns : goal.returns
returns c =
    let h = c.args.self.now in
    let count : length c.self.inside.modes.items ≡ length h.modes = ap (λ (g : Host). length g.modes) c.self.view_is in
    record { found = tt; none = λ may. none_quiet h (subst (λ (g : Host). g.rotation < length g.modes) c.self.view_is c.self.invariant.rotation) (λ k before. c.loop-step.invariant k (omega (arith, count))) }
