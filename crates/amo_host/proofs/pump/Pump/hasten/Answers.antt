use Rattle.std.proofs.Common.{map, sym, subst}
use Rattle.amo_window.specs.Timers.{hastened}
use Rattle.amo_window.proofs.TimersLemmas.{streams_of-hastened}
use Rattle.amo_host.specs.Host.{Host}
use Rattle.amo_host.specs.Station.{Station, IsStation}
use Rattle.amo_host.proofs.AtStreamLemmas.{station_retimed}
use Rattle.amo_host.proofs.pump.Pump.hasten.Goals as goal

pub invariant_of-self : goal.invariant_of-self
invariant_of-self g c =
    let s : Station g.row.W.Denot = record { host = c.self.inside.agenda; charges = c.self.inside.charges.items; words = c.self.inside.words; batches = c.self.inside.batches } in
    subst (λ (h : Host). IsStation (record s { host = h })) (sym c.hasten.ensures)
    (station_retimed s (map (hastened c.args.now) s.host.timers) c.self.invariant (streams_of-hastened c.args.now s.host.timers))

pub returns-clause-station : goal.returns-clause-station
returns-clause-station g c = invariant_of-self g c
