use Rattle.std.proofs.Common.{◌≡◌, ◌<◌, length, false, refl, ap, arith}
use Rattle.std.proofs.lemmas.Option.{slice_get_within}
use Rattle.amo_host.specs.declared.agenda.StreamMode.{StreamMode}
use Rattle.amo_host.specs.Host.{Host}
use Rattle.amo_host.specs.Modes.{waits}
use Rattle.amo_host.proofs.AtStreamLemmas.{mode_there}
use Rattle.amo_host.proofs.ChargeLemmas.{each_at, each_from}
use Rattle.amo_host.proofs.agenda.Agenda.are_calm.Goals as goal

pub returns-then-waits : goal.returns-then-waits
returns-then-waits c =
    let h = c.args.self.now in
    let count : length c.self.inside.modes.items ≡ length h.modes = ap (λ (g : Host). length g.modes) c.self.view_is in
    let within : c.loop-place.place < length h.modes = omega (arith, c.loop-place-test.true, c.len-place-end.ensures, count) in
    let m = mode_there h.modes c.loop-place.place within in (
      λ no. absurd (cc no),
      λ calm.
          let rests = each_at (λ (x : StreamMode). waits x.mode ≡ false) h.modes c.loop-place.place m.0 calm m.1 in
          absurd (cc (rests, c.mode_in.ensures m.0 m.1, c.waits.ensures, c.if-waits.true)),
    )

pub returns : goal.returns
returns c =
    let h = c.args.self.now in
    let count : length c.self.inside.modes.items ≡ length h.modes = ap (λ (g : Host). length g.modes) c.self.view_is in (
      λ _. each_from (λ (x : StreamMode). waits x.mode ≡ false) h.modes (λ i m at. c.loop-place.invariant i m (omega (arith, c.loop-place-test.false, c.len-place-end.ensures, count, slice_get_within h.modes i m at)) at),
      λ _. refl,
    )
