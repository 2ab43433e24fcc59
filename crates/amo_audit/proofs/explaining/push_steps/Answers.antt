use Rattle.amo_audit.specs.Explanation.{step_line}
use Rattle.amo_audit.proofs.Pieces.{nothing_appended, more_appended, all_appended}
use Rattle.amo_audit.proofs.explaining.push_steps.Goals as goal

pub loop-place-init : goal.loop-place-init
loop-place-init c = nothing_appended (step_line c.args.stream) c.args.text.now.items c.args.steps.now

pub loop-place-preserved : goal.loop-place-preserved
loop-place-preserved c =
    more_appended (step_line c.args.stream) c.args.text.now.items c.args.steps.now c.loop-place.text.items _ c.loop-place.place c.index-steps-place.result c.loop-place-test.true c.index-steps-place.is c.loop-place.invariant c.in_ok-push_step.ensures

pub returns : goal.returns
returns c = all_appended (step_line c.args.stream) c.args.text.now.items c.args.steps.now c.loop-place.text.items c.loop-place.place c.loop-place-test.false c.loop-place.invariant
