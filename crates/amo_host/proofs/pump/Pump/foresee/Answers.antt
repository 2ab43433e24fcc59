use Rattle.std.proofs.Common.{get_or, ap, ◌∙◌}
use Rattle.amo_host.specs.Station.{Station}
use Rattle.amo_host.proofs.AtStreamLemmas.{charge_there}
use Rattle.amo_host.proofs.pump.Pump.foresee.Goals as goal

pub returns-clause-foretold : goal.returns-clause-foretold
returns-clause-foretold g c =
    let s = c.args.self.now in
    let charge = c.index.result.now in
    let there = charge_there s c.in-Some.ensures.station c.in-Some.place c.args.stream charge c.in-Some.ensures.within
    (c.index.ensures ∙ ap (λ (t : Station g.row.W.Denot). get_or t.charges c.in-Some.place charge) c.self.view_is) c.in-Some.ensures.found in
    (c.in-Some.place, charge, there.0, there.1, c.in_ok-foreseen.ensures.foreseen)
