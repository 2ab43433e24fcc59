use Rattle.std.proofs.Common.{ℕ, get_or, ap, subst, ◌∙◌}
use Rattle.amo_object.specs.declared.step.End.{End}
use Rattle.amo_book.specs.Look.{Stands}
use Rattle.amo_host.specs.Charges.{IsOfSide}
use Rattle.amo_host.specs.Host.{streams_of}
use Rattle.amo_host.specs.Station.{Station}
use Rattle.amo_window.proofs.Rising.{Contains-at_place}
use Rattle.amo_host.proofs.AtStreamLemmas.{charge_there}
use Rattle.amo_host.proofs.ChargeLemmas.{each_at}
use Rattle.amo_host.proofs.pump.Pump.look.Goals as goal

pub returns-clause-found : goal.returns-clause-found
returns-clause-found g c =
    let s = c.args.self.now in
    let charge = c.index.result.now in
    let is = c.in-Some.ensures.station in
    let there = charge_there s is c.in-Some.place c.args.stream charge c.in-Some.ensures.within
    (c.index.ensures ∙ ap (λ (t : Station g.row.W.Denot). get_or t.charges c.in-Some.place charge) c.self.view_is) c.in-Some.ensures.found in
    let side = each_at (IsOfSide s.host.side) s.charges c.in-Some.place charge is.sides there.0 in (
      Contains-at_place (streams_of s.host.modes) c.in-Some.place c.args.stream c.in-Some.ensures.found,
      subst (λ (stream : ℕ). Stands c.args.pass.now c.look.new.pass s.host.side stream c.in_ok-summary.summary) there.1
          (subst (λ (e : End). Stands c.args.pass.now c.look.new.pass e charge.stream c.in_ok-summary.summary) side c.in_ok-summary.ensures.finds.0),
    )
