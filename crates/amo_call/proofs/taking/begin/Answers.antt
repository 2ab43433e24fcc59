use Rattle.std.proofs.Common.{ℕ, false, List, refl, sym, subst}
use Rattle.amo_call.specs.declared.answer.Response.{Response}
use Rattle.amo_call.specs.declared.answer.StreamState.{StreamState}
use Rattle.amo_call.specs.Answer.{TellsState}
use Rattle.amo_call.specs.Heard.{ToQuestion}
use Rattle.amo_call.specs.Naming.{MayTakeFrom, NamesTake}
use Rattle.amo_call.specs.Takes.{OfState}
use Rattle.amo_call.proofs.Puts.{at_some}
use Rattle.amo_call.proofs.Steps.{at_none}
use Rattle.amo_call.proofs.taking.begin.Goals as goal

pub returns-in_default-read_state-clause-told : goal.returns-in_default-read_state-clause-told
returns-in_default-read_state-clause-told g c =
    OfState (record {
      request = c.in_ok-request.request;
      asked = record { method_is = c.in_ok-request.ensures.method; target_is = c.in_ok-request.ensures.target };
      answered = at_some c.in_ok-response.field-0 (λ (r : Response). g.C.Caller.heard (ToQuestion c.in_ok-request.request r)) c.in-Some.response c.in-Some.is c.in_ok-response.ensures.heard;
    })
    (at_none c.read_state.result ((state : StreamState) → ¬ (TellsState c.args.stream false state c.in-Some.response)) c.in_default-read_state.is c.read_state.ensures.none)

pub returns-clause-told : goal.returns-clause-told
returns-clause-told g c = record {
  is_reached = record {
    taking = record { stream_is = refl; from_is = refl };
    by_is = c.copied.ensures;
    response = c.in-Some.response;
    answered = record {
      request = c.in_ok-request.request;
      asked = record { method_is = c.in_ok-request.ensures.method; target_is = c.in_ok-request.ensures.target };
      answered = at_some c.in_ok-response.field-0 (λ (r : Response). g.C.Caller.heard (ToQuestion c.in_ok-request.request r)) c.in-Some.response c.in-Some.is c.in_ok-response.ensures.heard;
    };
    state = c.in-Some-read_state.state;
    told = c.in-Some-read_state.ensures.found;
    life = refl;
    number = c.saturating_add.ensures;
  };
  from = c.args.from;
  taking = record { stream_is = refl; from_is = refl };
}

pub name-requires : goal.name-requires
name-requires g c =
    let C = g.C.Caller in
    let stream = c.args.stream in
    let from = c.args.from in
    NamesTake stream from c.args.by.now (subst (λ (s : List ℕ). MayTakeFrom C.heard stream from s) (sym c.ask_until.ensures.saved) c.requires) (record {
      taking = record { stream_is = refl; from_is = refl };
      by_is = c.copied.ensures;
      response = c.in-Some.response;
      answered = record {
        request = c.in_ok-request.request;
        asked = record { method_is = c.in_ok-request.ensures.method; target_is = c.in_ok-request.ensures.target };
        answered = at_some c.in_ok-response.field-0 (λ (r : Response). C.heard (ToQuestion c.in_ok-request.request r)) c.in-Some.response c.in-Some.is c.in_ok-response.ensures.heard;
      };
      state = c.in-Some-read_state.state;
      told = c.in-Some-read_state.ensures.found;
      life = refl;
      number = c.saturating_add.ensures;
    })
