use Rattle.std.proofs.Common.{◌≡◌, ◌<◌, ℕ, false, [], Some, length, set, slice_get, refl, sym, ap, subst, ◌∙◌}
use Rattle.std.proofs.lemmas.Option.{same_Some}
use Rattle.amo_book.specs.Charge.{ChargeState, IsChargeOf}
use Rattle.amo_book.specs.Drive.{Driven}
use Rattle.amo_host.specs.declared.agenda.StreamMode.{StreamMode}
use Rattle.amo_host.specs.Charges.{stream_mode_of}
use Rattle.amo_host.specs.Host.{streams_of}
use Rattle.amo_host.specs.Modes.{is_open}
use Rattle.amo_host.specs.Station.{Station}
use Rattle.amo_host.proofs.ChargeLemmas.{each_at, each_set}
use Rattle.amo_host.proofs.Drives.{opens, silently_driven}
use Rattle.amo_host.proofs.StationLemmas.{read_at, mode_at_place, station_after, stream_at_place, kind_is, opens_none}
use Rattle.amo_host.proofs.pump.Pump.go.Goals as goal

pub note-requires-clause-free : goal.note-requires-clause-free
note-requires-clause-free g c = λ m at now_open was_shut.
    let s : Station g.row.W.Denot = record { host = c.self.inside.agenda; charges = c.self.inside.charges.items; words = c.self.inside.words; batches = c.self.inside.batches } in
    let place = c.in-Some.place in
    let charge = c.index_mut-charge.result.now in
    let within : place < length s.charges = subst (λ (t : Station g.row.W.Denot). place < length t.charges) (sym c.self.view_is) c.in-Some.ensures.within in
    let stands = read_at s.charges place charge within c.index_mut-charge.ensures.value in
    let same : stream_mode_of charge ≡ m = same_Some _ _ (sym (mode_at_place s c.self.invariant place charge stands) ∙ at) in
    let shut : is_open charge.mode ≡ false = ap (λ (x : StreamMode). is_open x.mode) same ∙ was_shut in
    absurd (opens_none c.args.act charge.mode c.requires.act (opens _ _ _ _ _ _ _ _ c.in_ok-done.ensures.driven.1.2 now_open shut))

pub invariant_of-self-2 : goal.invariant_of-self-2
invariant_of-self-2 g c =
    let s : Station g.row.W.Denot = record { host = c.self.inside.agenda; charges = c.self.inside.charges.items; words = c.self.inside.words; batches = c.self.inside.batches } in
    let place = c.in-Some.place in
    let charge = c.index_mut-charge.result.now in
    let within : place < length s.charges = subst (λ (t : Station g.row.W.Denot). place < length t.charges) (sym c.self.view_is) c.in-Some.ensures.within in
    let at = read_at s.charges place charge within c.index_mut-charge.ensures.value in
    let noted = c.note.ensures.noted (stream_mode_of charge) (mode_at_place s c.self.invariant place charge at) in
    station_after s c.self.invariant place charge at c.note.new.self c.go_down_or_up.new.charge false c.in_ok-done.done.mode c.args.now c.self.inside.words c.self.inside.batches c.in_ok-done.ensures.driven.1.2.charge c.note.ensures.host noted

pub returns-clause-ok : goal.returns-clause-ok
returns-clause-ok g c =
    let s : Station g.row.W.Denot = record { host = c.self.inside.agenda; charges = c.self.inside.charges.items; words = c.self.inside.words; batches = c.self.inside.batches } in
    let place = c.in-Some.place in
    let charge = c.index_mut-charge.result.now in
    let within : place < length s.charges = subst (λ (t : Station g.row.W.Denot). place < length t.charges) (sym c.self.view_is) c.in-Some.ensures.within in
    let found : slice_get (streams_of s.host.modes) place ≡ Some c.args.stream = subst (λ (t : Station g.row.W.Denot). slice_get (streams_of t.host.modes) place ≡ Some c.args.stream) (sym c.self.view_is) c.in-Some.ensures.found in
    let at = read_at s.charges place charge within c.index_mut-charge.ensures.value in
    let noted = c.note.ensures.noted (stream_mode_of charge) (mode_at_place s c.self.invariant place charge at) in
    let silent = c.in_ok-done.ensures.driven in
    let driven = silently_driven _ _ charge c.go_down_or_up.new.charge c.args.act c.in_ok-done.done [] silent in
    rw (← c.self.view_is) (λ k of. (
      place,
      found,
      refl,
      kind_is c.args.act c.of-kind.result k c.of-kind.ensures of,
      silent.0,
      refl,
      (
        [],
        [],
        record {
          charge = charge;
          at = at;
          of_side = c.side-side.ensures;
          of_stream = same_Some _ _ (sym found ∙ stream_at_place s c.self.invariant place charge at);
          driven = subst (λ (d : ChargeState). Driven c.args.pass.now c.go_down_or_up.new.pass charge d c.args.act [] [] c.in_ok-done.done) driven.charge driven;
          charges = ap (set s.charges place) driven.charge;
          noted = noted;
          batches = refl;
        },
      ),
    ))

pub returns-clause-station : goal.returns-clause-station
returns-clause-station g c =
    let s : Station g.row.W.Denot = record { host = c.self.inside.agenda; charges = c.self.inside.charges.items; words = c.self.inside.words; batches = c.self.inside.batches } in
    let place = c.in-Some.place in
    let charge = c.index_mut-charge.result.now in
    let within : place < length s.charges = subst (λ (t : Station g.row.W.Denot). place < length t.charges) (sym c.self.view_is) c.in-Some.ensures.within in
    let at = read_at s.charges place charge within c.index_mut-charge.ensures.value in
    let together = rw (← c.self.view_is) at c.requires.together in
    let book = c.args.book.now in
    let driven = c.in_ok-done.ensures.driven.1.2 in
    let right = each_at (IsChargeOf book.id book.sides) s.charges place charge together.1 at in (
      invariant_of-self-2 g c,
      (driven.grown.book ∙ together.0, each_set (IsChargeOf book.id book.sides) s.charges place c.go_down_or_up.new.charge together.1 (subst (IsChargeOf book.id book.sides) (sym driven.charge) right)),
    )
