use Rattle.std.proofs.Common.{◌∙◌, ◌<◌, arith, length, refl}
use Rattle.std.proofs.lemmas.List.{length-set}
use Rattle.amo_audit.proofs.Exchanged.{exchanged_there}
use Rattle.amo_audit.proofs.keeping.keep_open.Goals as goal
use Rattle.amo_audit.proofs.keeping.keep_open.Goals.{in-Some, in_default}

pub loop-place-preserved : goal.loop-place-preserved
loop-place-preserved c =
    let within : c.loop-place.place < length c.loop-place.runs.items = omega (arith, c.loop-place.invariant.0) in
    elim c.match-branch-3.branch [
      | in-Some w ↦ rw w.runs-is (
        length-set c.loop-place.runs.items c.loop-place.place _ ∙ c.loop-place.invariant.0,
        exchanged_there c.loop-place.runs.items c.args.events.now c.loop-place.place c.index.result.now w.index_mut.result.now (record w.index_mut.result.now { steps = w.in-Some.steps })
            within c.index.ensures w.index_mut.ensures.value refl (rw w.in-Some.is at c.in_ok-steps.ensures) c.loop-place.invariant.1,
      )
      | in_default w ↦ rw w.runs-is c.loop-place.invariant
    ]
