use Rattle.std.proofs.Common.{ℕ, ◌∙◌}
use Rattle.amo_call.specs.declared.answer.Response.{Response}
use Rattle.amo_call.specs.Heard.{ToQuestion}
use Rattle.amo_call.specs.Pages.{TellsNextLine}
use Rattle.amo_call.specs.Naming.{TakesFirst}
use Rattle.amo_call.specs.Takes.{OfCounts}
use Rattle.amo_call.proofs.Puts.{at_some}
use Rattle.amo_call.proofs.Steps.{at_none}
use Rattle.amo_call.proofs.Takes.{is_first_ok}
use Rattle.amo_call.proofs.taking.start.Goals as goal

pub returns-in-Some-read_next_line-clause-told : goal.returns-in-Some-read_next_line-clause-told
returns-in-Some-read_next_line-clause-told g c =
    let C = g.C.Caller in
    let caller = c.begin.new.caller in
    is_first_ok C.heard c.args.stream c.args.by.now c.in-Some-read_next_line.from (C.is_silent caller) (C.saved caller) c.begin.result (λ call next. record {
      from = c.in-Some-read_next_line.from;
      response = c.in-Some.response;
      answered = record {
        request = c.in_ok-request.request;
        asked = record { method_is = c.in_ok-request.ensures.method; target_is = c.in_ok-request.ensures.target };
        answered = at_some c.in_ok-response.field-0 (λ (r : Response). C.heard (ToQuestion c.in_ok-request.request r)) c.in-Some.response c.in-Some.is c.in_ok-response.ensures.heard;
      };
      told = c.in-Some-read_next_line.ensures.found;
      next = next;
    }) c.begin.ensures.told

pub returns-clause-told : goal.returns-clause-told
returns-clause-told g c =
    OfCounts (record {
      request = c.in_ok-request.request;
      asked = record { method_is = c.in_ok-request.ensures.method; target_is = c.in_ok-request.ensures.target };
      answered = at_some c.in_ok-response.field-0 (λ (r : Response). g.C.Caller.heard (ToQuestion c.in_ok-request.request r)) c.in-Some.response c.in-Some.is c.in_ok-response.ensures.heard;
    })
    (at_none c.read_next_line.result ((line : ℕ) → ¬ (TellsNextLine line c.in-Some.response)) c.in-None.is c.read_next_line.ensures.none)

pub begin-requires : goal.begin-requires
begin-requires g c =
    TakesFirst c.in-Some.response (c.ask_until.ensures.saved ∙ c.requires) (record {
      request = c.in_ok-request.request;
      asked = record { method_is = c.in_ok-request.ensures.method; target_is = c.in_ok-request.ensures.target };
      answered = at_some c.in_ok-response.field-0 (λ (r : Response). g.C.Caller.heard (ToQuestion c.in_ok-request.request r)) c.in-Some.response c.in-Some.is c.in_ok-response.ensures.heard;
    }) c.in-Some-read_next_line.ensures.found
