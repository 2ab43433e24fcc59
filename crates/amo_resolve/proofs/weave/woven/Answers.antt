use Rattle.std.proofs.Common.{◌-◌, ◌+◌, List, subst, sym, arith}
use Rattle.std.proofs.Math.ListN.{set}
use Rattle.amo_object.specs.declared.step.Step.{Step}
use Rattle.amo_resolve.proofs.Weaving.{IsWoven, woven_call, woven_loss}
use Rattle.amo_resolve.proofs.weave.woven.Goals as goal

pub loop-losses-preserved-then-since-gt0 : goal.loop-losses-preserved-then-since-gt0
loop-losses-preserved-then-since-gt0 c =
    let w = c.loop-losses.invariant in
    subst (λ (run : List Step). IsWoven c.args.calls.items c.args.draft.now.marks.items (c.loop-losses.place - 1) c.loop-losses.losses (c.loop-losses.since - 1) run) (sym c.swap.ensures.items)
    (woven_call c.args.calls.items c.args.draft.now.marks.items c.loop-losses.place c.loop-losses.losses c.loop-losses.since (c.loop-losses.since - 1) (c.loop-losses.place - 1) c.loop-losses.run.items w
    (omega arith) (omega (arith, w.counted)) (omega arith))

pub loop-losses-preserved : goal.loop-losses-preserved
loop-losses-preserved c =
    let w = c.loop-losses.invariant in
    let fewer = c.loop-losses.losses - 1 in
    let mark = c.index-mark.result.now in
    subst (λ (step : Step). IsWoven c.args.calls.items c.args.draft.now.marks.items c.loop-losses.place fewer mark.calls (set c.loop-losses.run.items (c.loop-losses.place + fewer) step)) (sym c.step.ensures)
    (woven_loss c.args.calls.items c.args.draft.now.marks.items c.loop-losses.place c.loop-losses.losses c.loop-losses.since fewer mark c.loop-losses.run.items w
    (omega arith) (omega arith) c.index-mark.ensures)
