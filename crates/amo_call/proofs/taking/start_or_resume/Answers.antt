use Rattle.std.proofs.Common.{sym, subst}
use Rattle.std.specs.Prelude.{IfOk, Option}
use Rattle.amo_call.specs.declared.kept.Kept.{Kept}
use Rattle.amo_call.specs.Takes.{ComesToTake, TakesBy}
use Rattle.amo_call.proofs.Takes.{begins_ok}
use Rattle.amo_call.proofs.taking.start_or_resume.Goals as goal

pub returns-in-Some-clause-told : goal.returns-in-Some-clause-told
returns-in-Some-clause-told g c =
    let C = g.C.Caller in
    let caller = c.resume.new.caller in
    let by = c.args.by.now in
    subst (λ (f : Option Kept). IfOk c.resume.result (ComesToTake C.heard c.args.stream (TakesBy C.heard c.args.stream by f) (C.is_silent caller) (C.saved caller))) (sym c.in-Some.is)
    (c.resume.ensures.told by)

pub returns-in-None-clause-told : goal.returns-in-None-clause-told
returns-in-None-clause-told g c =
    let C = g.C.Caller in
    let caller = c.start.new.caller in
    let by = c.args.by.now in
    subst (λ (f : Option Kept). IfOk c.start.result (ComesToTake C.heard c.args.stream (TakesBy C.heard c.args.stream by f) (C.is_silent caller) (C.saved caller))) (sym c.in-None.is)
    (begins_ok C.heard c.args.stream by (C.is_silent caller) (C.saved caller) c.start.result c.start.ensures.told)
