use Rattle.std.proofs.Common.{◌≡◌, [], sym, subst}
use Rattle.std.specs.Prelude.{IfOk, Option}
use Rattle.amo_call.specs.declared.kept.Kept.{Kept}
use Rattle.amo_call.specs.Kept.{kept_text}
use Rattle.amo_call.specs.Puts.{ComesTo, HasPut, PutsFirst}
use Rattle.amo_call.proofs.Puts.{at_some, begins_ok, is_resumed}
use Rattle.amo_call.proofs.Steps.{at_none}
use Rattle.amo_call.proofs.putting.begin_or_resume.Goals as goal

pub returns-in-Some : goal.returns-in-Some
returns-in-Some g c =
    let C = g.C.Caller in
    let caller = c.args.caller.now in
    let kept = c.in-Some.kept in
    subst (λ (f : Option Kept). HasPut C.heard c.args.order.now (ComesTo C.heard c.args.order.now f) (C.is_fresh caller) (C.is_silent caller) (C.saved caller) c.resume.result) (sym c.in-Some.is)
    (is_resumed C.heard c.args.order.now (C.is_fresh caller) (C.is_silent caller) (C.saved caller) c.resume.result kept
    (at_some c.args.found (λ (k : Kept). C.saved caller ≡ kept_text k) kept c.in-Some.is c.requires.found) c.resume.ensures)

pub returns-in-None : goal.returns-in-None
returns-in-None g c =
    let C = g.C.Caller in
    let caller = c.begin.new.caller in
    subst (λ (f : Option Kept). IfOk c.begin.result (HasPut C.heard c.args.order.now (ComesTo C.heard c.args.order.now f) (C.is_fresh caller) (C.is_silent caller) (C.saved caller))) (sym c.in-None.is)
    (begins_ok C.heard c.args.order.now (C.is_fresh caller) (C.is_silent caller) (C.saved caller) c.begin.result c.begin.ensures)

pub begin-requires : goal.begin-requires
begin-requires g c = PutsFirst (at_none c.args.found (g.C.Caller.saved c.args.caller.now ≡ []) c.in-None.is c.requires.none)
