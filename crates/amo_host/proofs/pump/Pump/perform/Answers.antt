use Rattle.std.proofs.Common.{◌≡◌, ◌<◌, Bool, false, length, set, refl, sym, ap, subst, ◌∙◌}
use Rattle.std.proofs.lemmas.Option.{same_Some}
use Rattle.amo_book.specs.Charge.{ChargeState, IsChargeOf}
use Rattle.amo_book.specs.Drive.{Driven}
use Rattle.amo_host.specs.declared.agenda.StreamMode.{StreamMode}
use Rattle.amo_host.specs.Charges.{stream_mode_of}
use Rattle.amo_host.specs.Host.{Noted}
use Rattle.amo_host.specs.Modes.{is_open}
use Rattle.amo_host.specs.Station.{Station}
use Rattle.amo_host.proofs.ChargeLemmas.{each_at, each_set}
use Rattle.amo_host.proofs.Drives.{opens}
use Rattle.amo_host.proofs.StationLemmas.{read_at, mode_at_place, station_after, suits_host}
use Rattle.amo_host.proofs.pump.Pump.perform.Goals as goal

pub of-kind-requires : goal.of-kind-requires
of-kind-requires g c =
    let s : Station g.row.W.Denot = record { host = c.self.inside.agenda; charges = c.self.inside.charges.items; words = c.self.inside.words; batches = c.self.inside.batches } in
    let charge = c.index_mut-charge.result.now in
    let within : c.args.place < length s.charges = subst (λ (t : Station g.row.W.Denot). c.args.place < length t.charges) (sym c.self.view_is) c.requires.place in
    let at = read_at s.charges c.args.place charge within c.index_mut-charge.ensures.value in
    suits_host charge c.args.act (rw (← c.self.view_is) at c.requires.suits charge at)

pub note-requires-clause-free : goal.note-requires-clause-free
note-requires-clause-free g c = λ m at now_open was_shut.
    let s : Station g.row.W.Denot = record { host = c.self.inside.agenda; charges = c.self.inside.charges.items; words = c.self.inside.words; batches = c.self.inside.batches } in
    let charge = c.index_mut-charge.result.now in
    let within : c.args.place < length s.charges = subst (λ (t : Station g.row.W.Denot). c.args.place < length t.charges) (sym c.self.view_is) c.requires.place in
    let stands = read_at s.charges c.args.place charge within c.index_mut-charge.ensures.value in
    let same : stream_mode_of charge ≡ m = same_Some _ _ (sym (mode_at_place s c.self.invariant c.args.place charge stands) ∙ at) in
    let shut : is_open charge.mode ≡ false = ap (λ (x : StreamMode). is_open x.mode) same ∙ was_shut in
    let may = opens _ _ _ _ _ _ _ _ c.in_ok-done.ensures.driven now_open shut in
    rw (← c.self.view_is) at c.requires.free charge.mode may

pub invariant_of-self-2 : goal.invariant_of-self-2
invariant_of-self-2 g c =
    let s : Station g.row.W.Denot = record { host = c.self.inside.agenda; charges = c.self.inside.charges.items; words = c.self.inside.words; batches = c.self.inside.batches } in
    let charge = c.index_mut-charge.result.now in
    let within : c.args.place < length s.charges = subst (λ (t : Station g.row.W.Denot). c.args.place < length t.charges) (sym c.self.view_is) c.requires.place in
    let at = read_at s.charges c.args.place charge within c.index_mut-charge.ensures.value in
    let noted = c.note.ensures.noted (stream_mode_of charge) (mode_at_place s c.self.invariant c.args.place charge at) in
    station_after s c.self.invariant c.args.place charge at c.note.new.self c.perform.new.charge c.is_resend-resent.result c.in_ok-done.done.mode c.args.now c.self.inside.words c.self.inside.batches c.in_ok-done.ensures.driven.charge c.note.ensures.host noted

pub returns-clause-done : goal.returns-clause-done
returns-clause-done g c =
    let s : Station g.row.W.Denot = record { host = c.self.inside.agenda; charges = c.self.inside.charges.items; words = c.self.inside.words; batches = c.self.inside.batches } in
    let charge = c.index_mut-charge.result.now in
    let within : c.args.place < length s.charges = subst (λ (t : Station g.row.W.Denot). c.args.place < length t.charges) (sym c.self.view_is) c.requires.place in
    let at = read_at s.charges c.args.place charge within c.index_mut-charge.ensures.value in
    let noted = c.note.ensures.noted (stream_mode_of charge) (mode_at_place s c.self.invariant c.args.place charge at) in
    let driven = c.in_ok-done.ensures.driven in
    rw (← c.self.view_is) (
      c.of-kind.ensures,
      record {
        charge = charge;
        at = at;
        of_side = c.side-side.ensures;
        of_stream = c.stream-stream.ensures.number;
        driven = subst (λ (d : ChargeState). Driven c.args.pass.now c.perform.new.pass charge d c.args.act c.args.out.now c.perform.new.out c.in_ok-done.done) driven.charge driven;
        charges = ap (set s.charges c.args.place) driven.charge;
        noted = subst (λ (b : Bool). Noted s.host c.note.new.self c.args.place (stream_mode_of charge) b c.in_ok-done.done.mode c.args.now) c.is_resend-resent.ensures noted;
        batches = refl;
      },
    )

pub returns-clause-station : goal.returns-clause-station
returns-clause-station g c =
    let s : Station g.row.W.Denot = record { host = c.self.inside.agenda; charges = c.self.inside.charges.items; words = c.self.inside.words; batches = c.self.inside.batches } in
    let charge = c.index_mut-charge.result.now in
    let within : c.args.place < length s.charges = subst (λ (t : Station g.row.W.Denot). c.args.place < length t.charges) (sym c.self.view_is) c.requires.place in
    let at = read_at s.charges c.args.place charge within c.index_mut-charge.ensures.value in
    let together = rw (← c.self.view_is) at c.requires.together in
    let book = c.args.book.now in
    let driven = c.in_ok-done.ensures.driven in
    let right = each_at (IsChargeOf book.id book.sides) s.charges c.args.place charge together.1 at in (
      invariant_of-self-2 g c,
      (driven.grown.book ∙ together.0, each_set (IsChargeOf book.id book.sides) s.charges c.args.place c.perform.new.charge together.1 (subst (IsChargeOf book.id book.sides) (sym driven.charge) right)),
    )
