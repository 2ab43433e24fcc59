use Rattle.amo_audit.specs.Explanation.{run_text}
use Rattle.amo_audit.proofs.Pieces.{nothing_appended, more_appended, all_appended}
use Rattle.amo_audit.proofs.explaining.push_runs.Goals as goal

pub loop-place-init : goal.loop-place-init
loop-place-init c = nothing_appended run_text c.args.text.now.items c.args.runs.now

pub loop-place-preserved : goal.loop-place-preserved
loop-place-preserved c =
    more_appended run_text c.args.text.now.items c.args.runs.now c.loop-place.text.items _ c.loop-place.place c.index-runs-place.result c.loop-place-test.true c.index-runs-place.is c.loop-place.invariant c.in_ok-push_run.ensures

pub returns : goal.returns
returns c = all_appended run_text c.args.text.now.items c.args.runs.now c.loop-place.text.items c.loop-place.place c.loop-place-test.false c.loop-place.invariant
