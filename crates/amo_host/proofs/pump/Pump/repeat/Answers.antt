use Rattle.std.proofs.Common.{◌≡◌, Some, slice_get, refl, sym, ap, subst}
use Rattle.amo_window.proofs.Rising.{Contains-at_place}
use Rattle.amo_host.specs.Host.{Host, streams_of}
use Rattle.amo_host.specs.Station.{Station}
use Rattle.amo_host.proofs.AtStreamLemmas.{now_repeated, station_repeated}
use Rattle.amo_host.proofs.pump.Pump.repeat.Goals as goal

pub invariant_of-self : goal.invariant_of-self
invariant_of-self g c =
    let s : Station g.row.W.Denot = record { host = c.self.inside.agenda; charges = c.self.inside.charges.items; words = c.self.inside.words; batches = c.self.inside.batches } in
    let found = subst (λ (t : Station g.row.W.Denot). slice_get (streams_of t.host.modes) c.in-Some.place ≡ Some c.args.stream) (sym c.self.view_is) c.in-Some.ensures.found in
    station_repeated s c.repeat.new.self c.in-Some.place c.args.stream c.args.now c.self.invariant found c.repeat.ensures.repeated

pub returns-in-Some-clause-found : goal.returns-in-Some-clause-found
returns-in-Some-clause-found g c = (λ _. Contains-at_place _ c.in-Some.place c.args.stream c.in-Some.ensures.found, λ _. refl)

pub returns-in-Some-clause-repeated : goal.returns-in-Some-clause-repeated
returns-in-Some-clause-repeated g c = λ _.
    let s : Station g.row.W.Denot = record { host = c.self.inside.agenda; charges = c.self.inside.charges.items; words = c.self.inside.words; batches = c.self.inside.batches } in
    let found = subst (λ (t : Station g.row.W.Denot). slice_get (streams_of t.host.modes) c.in-Some.place ≡ Some c.args.stream) (sym c.self.view_is) c.in-Some.ensures.found in
    rw (← c.self.view_is) (ap (λ (h : Host). record s { host = h }) (now_repeated s c.repeat.new.self c.in-Some.place c.args.stream c.args.now found c.repeat.ensures.repeated))

pub returns-in-Some-clause-station : goal.returns-in-Some-clause-station
returns-in-Some-clause-station g c = invariant_of-self g c
