use Rattle.amo_call.specs.declared.taking.TakeTold.TheVariants as told
use Rattle.amo_call.proofs.Steps.{at_none}
use Rattle.amo_call.proofs.Takes.{goes_again}
use Rattle.amo_call.proofs.taking.make.Goals as goal

pub returns-in_default-clause-told : goal.returns-in_default-clause-told
returns-in_default-clause-told g c =
    let C = g.C.Caller in
    let caller = c.take_again.new.caller in
    goes_again C.heard c.args.by.now (C.is_silent caller) (C.saved caller) c.take_again.result c.args.kept told.NoAnswer c.requires.taking
    (c.take_again.ensures.silent (at_none c.in_ok-response.field-0 (C.is_silent c.make.new.self) c.in_default.is c.in_ok-response.ensures.silent)) c.take_again.ensures.again
