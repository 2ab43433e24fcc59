use Rattle.std.proofs.Common.{inl, refl, ◌∙◌}
use Rattle.amo_call.specs.declared.answer.Response.{Response}
use Rattle.amo_call.specs.declared.putting.PutTold.TheVariants as told
use Rattle.amo_call.specs.Heard.{ToCall}
use Rattle.amo_call.proofs.Puts.{at_some, goes_again, is_finished_ok}
use Rattle.amo_call.proofs.Steps.{at_none}
use Rattle.amo_call.proofs.putting.make.Goals as goal

pub returns-in_default : goal.returns-in_default
returns-in_default g c =
    let C = g.C.Caller in
    let caller = c.put_again.new.caller in
    goes_again C.heard c.args.order.now (C.is_fresh caller) (C.is_silent caller) (C.saved caller) c.put_again.result c.args.turn told.NoAnswer
    (c.put_again.ensures.saved ∙ c.make.ensures.saved ∙ c.requires.saved) c.requires.putting
    (inl (c.put_again.ensures.silent (at_none c.in_ok-response.field-0 (C.is_silent c.make.new.self) c.in_default.is c.in_ok-response.ensures.silent))) c.put_again.ensures.again

pub returns-in-Some-read_put : goal.returns-in-Some-read_put
returns-in-Some-read_put g c =
    let C = g.C.Caller in
    let caller = c.finish.new.caller in
    let kept = c.args.turn.kept in
    is_finished_ok C.heard c.args.order.now (C.is_fresh caller) (C.is_silent caller) (C.saved caller) c.finish.result kept c.in-Some-read_put.place c.in-Some.response c.requires.putting
    (at_some c.in_ok-response.field-0 (λ (r : Response). C.heard (ToCall kept r)) c.in-Some.response c.in-Some.is c.in_ok-response.ensures.heard)
    c.in-Some-read_put.ensures.found c.finish.ensures.told c.finish.ensures.saved

pub finish-requires-clause-put : goal.finish-requires-clause-put
finish-requires-clause-put g c = record {
  response = c.in-Some.response;
  answered = at_some c.in_ok-response.field-0 (λ (r : Response). g.C.Caller.heard (ToCall c.args.turn.kept r)) c.in-Some.response c.in-Some.is c.in_ok-response.ensures.heard;
  place = c.in-Some-read_put.place;
  told = c.in-Some-read_put.ensures.found;
  line_is = refl;
}
