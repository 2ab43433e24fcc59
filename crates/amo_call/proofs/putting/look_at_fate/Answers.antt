use Rattle.std.proofs.Common.{◌≡◌, true, refl, ◌∙◌, subst}
use Rattle.amo_door.specs.declared.answer.Fate.{Fate}
use Rattle.amo_call.specs.declared.answer.Response.{Response}
use Rattle.amo_call.specs.Answer.{TellsFate}
use Rattle.amo_call.specs.Heard.{ToQuestion}
use Rattle.amo_call.specs.Puts.{IsFound, NeverWas, OfFate, PutsAnew}
use Rattle.amo_call.proofs.Puts.{at_some, goes_on_behind}
use Rattle.amo_call.proofs.Steps.{at_none}
use Rattle.amo_call.proofs.putting.look_at_fate.Goals as goal

pub returns-in_default-read_fate : goal.returns-in_default-read_fate
returns-in_default-read_fate g c =
    let kept = c.args.turn.kept in
    OfFate kept (IsFound kept refl) c.requires.putting (record {
      request = c.in_ok-request.request;
      asked = record { method_is = c.in_ok-request.ensures.method; target_is = c.in_ok-request.ensures.target };
      answered = at_some c.in_ok-response.field-0 (λ (r : Response). g.C.Caller.heard (ToQuestion c.in_ok-request.request r)) c.in-Some.response c.in-Some.is c.in_ok-response.ensures.heard;
    })
    (at_none c.read_fate.result ((what : Fate) → ¬ (TellsFate kept.claim what c.in-Some.response)) c.in_default-read_fate.is c.read_fate.ensures.none)

pub returns-then-was_never : goal.returns-then-was_never
returns-then-was_never g c =
    let C = g.C.Caller in
    let caller = c.begin_again.new.caller in
    let claim = c.args.turn.kept.claim in
    goes_on_behind C.heard c.args.order.now (C.is_fresh caller) (C.is_silent caller) (C.saved caller) c.begin_again.result c.args.turn.kept
    (NeverWas c.in-Some.response (record {
      request = c.in_ok-request.request;
      asked = record { method_is = c.in_ok-request.ensures.method; target_is = c.in_ok-request.ensures.target };
      answered = at_some c.in_ok-response.field-0 (λ (r : Response). C.heard (ToQuestion c.in_ok-request.request r)) c.in-Some.response c.in-Some.is c.in_ok-response.ensures.heard;
    }) (subst (λ (f : Fate). TellsFate claim f c.in-Some.response) (c.was_never.ensures.0 c.if-was_never.true) c.in-Some-read_fate.ensures.found)) c.begin_again.ensures

pub returns : goal.returns
returns g c = record {
  call = c.args.turn.kept;
  is_reached = IsFound c.args.turn.kept refl;
  putting = c.requires.putting;
  response = c.in-Some.response;
  answered = record {
    request = c.in_ok-request.request;
    asked = record { method_is = c.in_ok-request.ensures.method; target_is = c.in_ok-request.ensures.target };
    answered = at_some c.in_ok-response.field-0 (λ (r : Response). g.C.Caller.heard (ToQuestion c.in_ok-request.request r)) c.in-Some.response c.in-Some.is c.in_ok-response.ensures.heard;
  };
  told = c.in-Some-read_fate.ensures.found;
  ever = λ e. let yes : c.was_never.result ≡ true = c.was_never.ensures.1 e in let bad : ⊥ = cc (yes, c.if-was_never.false) in bad;
}

pub begin_again-requires : goal.begin_again-requires
begin_again-requires g c =
    let C = g.C.Caller in
    let claim = c.args.turn.kept.claim in
    PutsAnew c.args.turn.kept (c.ask_until.ensures.saved ∙ c.requires.saved) c.requires.putting
    (NeverWas c.in-Some.response (record {
      request = c.in_ok-request.request;
      asked = record { method_is = c.in_ok-request.ensures.method; target_is = c.in_ok-request.ensures.target };
      answered = at_some c.in_ok-response.field-0 (λ (r : Response). C.heard (ToQuestion c.in_ok-request.request r)) c.in-Some.response c.in-Some.is c.in_ok-response.ensures.heard;
    }) (subst (λ (f : Fate). TellsFate claim f c.in-Some.response) (c.was_never.ensures.0 c.if-was_never.true) c.in-Some-read_fate.ensures.found))
