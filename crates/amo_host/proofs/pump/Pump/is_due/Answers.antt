use Rattle.std.proofs.Common.{◌≡◌, ◌≤◌, sym, subst, arith}
use Rattle.std.proofs.lemmas.Bool.Decides.{nat_tests}
use Rattle.amo_host.specs.AtStream.{IsSet}
use Rattle.amo_host.specs.Station.{Station}
use Rattle.amo_host.proofs.AtStreamLemmas.{due_there, one_time}
use Rattle.amo_host.proofs.pump.Pump.is_due.Goals as goal

pub returns-in-Some-time_in : goal.returns-in-Some-time_in
returns-in-Some-time_in g c =
    let h = c.args.self.now.host in
    let time = c.in-Some-time_in.time in
    let set : IsSet h c.in-Some.place time = rw (← c.self.view_is) c.in-Some-time_in.ensures.found in (
      λ yes. record { place = c.in-Some.place; at = c.in-Some.ensures.found; time = time; set = set; come = grind (arith, nat_tests, yes) },
      λ due.
          let same : time ≡ due.time = one_time h c.in-Some.place time due.time set (due_there h c.in-Some.ensures.station.host c.in-Some.place c.args.stream c.args.now c.in-Some.ensures.found due) in
          let come : time ≤ c.args.now = omega (arith, same, due.come) in
          grind (arith, nat_tests, come),
    )

pub returns-in-None : goal.returns-in-None
returns-in-None g c =
    let h = c.args.self.now.host in (
      λ no. absurd (cc no),
      λ due.
          let set = due_there h c.in-Some.ensures.station.host c.in-Some.place c.args.stream c.args.now c.in-Some.ensures.found due in
          absurd (c.in-None.ensures.absent due.time (subst (λ (t : Station g.row.W.Denot). IsSet t.host c.in-Some.place due.time) (sym c.self.view_is) set)),
    )
