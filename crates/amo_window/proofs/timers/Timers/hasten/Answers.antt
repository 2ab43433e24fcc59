use Rattle.std.proofs.Common.{◌≡◌, List, length, sym, ap, subst, ◌∙◌, arith}
use Rattle.amo_window.specs.declared.timers.Timer.{Timer}
use Rattle.amo_window.specs.Timers.{streams_of, CanBeTimed}
use Rattle.amo_window.proofs.TimersLemmas.{first_hastened, hastened-next, hastened-all, hastened-timed, length-hastened, streams_of-hastened}
use Rattle.amo_window.proofs.timers.Timers.hasten.Goals as goal

pub invariant_of-self : goal.invariant_of-self
invariant_of-self c =
    let items = c.self.inside.timers.items in
    subst CanBeTimed (sym (ap streams_of c.loop-place.invariant.anew ∙ hastened-timed c.args.now c.loop-place.place items)) c.self.invariant

pub loop-place-preserved : goal.loop-place-preserved
loop-place-preserved c =
    let items = c.self.inside.timers.items in
    let count = length-hastened c.args.now c.loop-place.place items in
    let same = ap (λ (l : List Timer). length l) c.loop-place.invariant.anew in
    record {
      anew = hastened-next c.args.now c.loop-place.place items c.loop-place.self-inside.timers.items c.index_mut.result.now c.hasten.new.self
          (omega (arith, c.loop-place-test.true, c.len-place-end.ensures, count, same)) c.loop-place.invariant.anew c.index_mut.ensures.value c.hasten.ensures;
      within = omega (arith, c.loop-place-test.true, c.len-place-end.ensures);
    }

pub returns-clause-timers : goal.returns-clause-timers
returns-clause-timers c =
    let items = c.self.inside.timers.items in
    let place : c.loop-place.place ≡ length items = omega (arith, c.loop-place.invariant.within, c.loop-place-test.false, c.len-place-end.ensures) in
    rw (← c.self.view_is) (c.loop-place.invariant.anew ∙ ap (λ n. first_hastened c.args.now n items) place ∙ hastened-all c.args.now items)

pub returns-clause-streams : goal.returns-clause-streams
returns-clause-streams c = ap streams_of (returns-clause-timers c) ∙ streams_of-hastened c.args.now c.args.self.now
