use Rattle.std.proofs.Common.{arith, subst, sym, take}
use Rattle.std.proofs.lemmas.List.{length-take-le, take_all}
use Rattle.amo_audit.specs.Alone.{FindsAlone}
use Rattle.amo_audit.proofs.Places.{one_more}
use Rattle.amo_audit.proofs.alone.judged_alone.Goals as goal

pub loop-place-preserved : goal.loop-place-preserved
loop-place-preserved c =
    let before = take c.loop-place.place c.args.events.now in
    subst (FindsAlone c.judge.new.self.streams.items c.judge.new.self.finding) (one_more c.args.events.now c.loop-place.place c.index-events-place.result (omega arith) c.index-events-place.is)
    (c.in_ok-judge.ensures before (sym (length-take-le c.loop-place.place c.args.events.now (omega arith))) c.loop-place.invariant)

pub returns : goal.returns
returns c = subst (FindsAlone c.loop-place.auditor.streams.items c.loop-place.auditor.finding) (take_all c.loop-place.place c.args.events.now (omega arith)) c.loop-place.invariant
