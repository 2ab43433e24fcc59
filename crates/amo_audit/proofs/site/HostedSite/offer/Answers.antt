use Rattle.std.proofs.Common.{[], ◌∷◌, reverse, refl, sym, ◌∙◌, subst}
use Rattle.std.proofs.lemmas.List.{reverse-append, length-reverse}
use Rattle.amo_audit.proofs.site.HostedSite.offer.Goals as goal

pub returns-then-not-delivers_emitted : goal.returns-then-not-delivers_emitted
returns-then-not-delivers_emitted g c = λ past long held. (
  refl,
  (λ goes. let yes = (c.delivers_emitted.ensures past held.0).1 goes in cc (yes, c.if-not-delivers_emitted.true)),
  held,
)

pub returns : goal.returns
returns g c = λ past long held. (
  (c.delivers_emitted.ensures past held.0).0 c.if-not-delivers_emitted.false,
  (
    c.in_ok-make.ensures past held.0,
    subst (g.T.TakeEvents.HasTaken c.take.new.self) (sym (reverse-append (c.args.event ∷ []) past)) (c.in_ok-take.ensures (reverse past) (long ∙ sym (length-reverse past)) held.1),
  ),
)
