use Rattle.std.proofs.Common.{◌≡◌, ◌+◌, ◌<◌, ◌^◌, ℕ, true, List, refl, sym, ap, subst, arith, rules}
use Rattle.amo_call.specs.declared.answer.Response.{Response}
use Rattle.amo_call.specs.declared.answer.StreamState.{StreamState}
use Rattle.amo_call.specs.declared.kept.Progress.TheVariants as progress
use Rattle.amo_call.specs.Answer.{TellsState}
use Rattle.amo_call.specs.Heard.{ToQuestion}
use Rattle.amo_call.specs.Naming.{NamesPut}
use Rattle.amo_call.specs.Puts.{MayPut, OfState}
use Rattle.amo_call.proofs.Puts.{at_some}
use Rattle.amo_call.proofs.Steps.{at_none}
use Rattle.amo_call.proofs.putting.begin.Goals as goal

pub returns-in_default-read_state : goal.returns-in_default-read_state
returns-in_default-read_state g c =
    let C = g.C.Caller in
    let heard = C.heard in
    OfState (subst (λ (s : List ℕ). MayPut heard c.args.order.now s) (sym c.ask_until.ensures.saved) c.requires) (record {
      request = c.in_ok-request.request;
      asked = record { method_is = c.in_ok-request.ensures.method; target_is = c.in_ok-request.ensures.target };
      answered = at_some c.in_ok-response.field-0 (λ (r : Response). heard (ToQuestion c.in_ok-request.request r)) c.in-Some.response c.in-Some.is c.in_ok-response.ensures.heard;
    })
    (at_none c.read_state.result ((state : StreamState) → ¬ (TellsState c.args.order.now.stream true state c.in-Some.response)) c.in_default-read_state.is c.read_state.ensures.none)

pub returns-in_default-checked_add : goal.returns-in_default-checked_add
returns-in_default-checked_add g c =
    let heard = g.C.Caller.heard in
    let told = c.in-Some-read_state.ensures.found in
    let fits : c.in-Some-read_state.state.last < 2 ^ 64 = told.fits in
    let none : ¬ (c.in-Some-read_state.state.last + 1 < 2 ^ 64) = c.in_default-checked_add.ensures in
    record {
      response = c.in-Some.response;
      answered = record {
        request = c.in_ok-request.request;
        asked = record { method_is = c.in_ok-request.ensures.method; target_is = c.in_ok-request.ensures.target };
        answered = at_some c.in_ok-response.field-0 (λ (r : Response). heard (ToQuestion c.in_ok-request.request r)) c.in-Some.response c.in-Some.is c.in_ok-response.ensures.heard;
      };
      state = c.in-Some-read_state.state;
      told = told;
      last = omega (arith, fits, none);
    }

pub returns : goal.returns
returns g c =
    let heard = g.C.Caller.heard in
    let same : c.in_ok-clone.field-0 ≡ c.args.order.now.message = search rules in
    record {
      is_saved = c.in_ok-name.ensures.saved;
      is_reached = record {
        putting = record { stream = refl; message = ap progress.Putting same };
        by = c.copied.ensures;
        response = c.in-Some.response;
        answered = record {
          request = c.in_ok-request.request;
          asked = record { method_is = c.in_ok-request.ensures.method; target_is = c.in_ok-request.ensures.target };
          answered = at_some c.in_ok-response.field-0 (λ (r : Response). heard (ToQuestion c.in_ok-request.request r)) c.in-Some.response c.in-Some.is c.in_ok-response.ensures.heard;
        };
        state = c.in-Some-read_state.state;
        told = c.in-Some-read_state.ensures.found;
        life = refl;
        number = omega (arith, c.in-Some-checked_add.ensures);
        fits = omega (arith, c.in-Some-checked_add.ensures);
      };
      putting = record { stream = refl; message = ap progress.Putting same };
      first = λ _. c.in_ok-name.ensures.fresh;
    }

pub name-requires : goal.name-requires
name-requires g c =
    let C = g.C.Caller in
    let order = c.args.order.now in
    let same : c.in_ok-clone.field-0 ≡ order.message = search rules in
    NamesPut order (subst (λ (s : List ℕ). MayPut C.heard order s) (sym c.ask_until.ensures.saved) c.requires) (record {
      putting = record { stream = refl; message = ap progress.Putting same };
      by = c.copied.ensures;
      response = c.in-Some.response;
      answered = record {
        request = c.in_ok-request.request;
        asked = record { method_is = c.in_ok-request.ensures.method; target_is = c.in_ok-request.ensures.target };
        answered = at_some c.in_ok-response.field-0 (λ (r : Response). C.heard (ToQuestion c.in_ok-request.request r)) c.in-Some.response c.in-Some.is c.in_ok-response.ensures.heard;
      };
      state = c.in-Some-read_state.state;
      told = c.in-Some-read_state.ensures.found;
      life = refl;
      number = omega (arith, c.in-Some-checked_add.ensures);
      fits = omega (arith, c.in-Some-checked_add.ensures);
    })
