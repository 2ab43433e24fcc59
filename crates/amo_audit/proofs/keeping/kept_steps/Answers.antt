use Rattle.amo_audit.proofs.Exchanged.{front_explains}
use Rattle.amo_audit.proofs.keeping.kept_steps.Goals as goal

pub returns-in-Some : goal.returns-in-Some
returns-in-Some c =
    let behind = rw c.as_slice.ensures.value at c.in_ok-calls.ensures.calls in
    let many = rw c.as_slice.ensures.value at c.in_ok-calls.ensures.many in
    let explains = rw c.as_slice-2.ensures.value at (rw c.in-Some.is at c.in_ok-steps.ensures.explains) in
    front_explains c.args.run.now.steps.items c.in-Some.steps.items c.front_of.result.items c.in_ok-calls.calls.items behind.0 c.in_ok-calls.many c.front_of.ensures.steps.0
    many behind.1 explains c.front_of.ensures.steps.1 c.front_of.ensures.calls
