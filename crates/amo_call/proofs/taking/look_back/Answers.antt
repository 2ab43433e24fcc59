use Rattle.std.proofs.Common.{◌≡◌, ◌<◌, ◌≤◌, false, Some, refl, sym, ◌∙◌, subst, arith}
use Rattle.std.specs.Prelude.{IfOk}
use Rattle.amo_door.specs.declared.answer.GotMessage.{GotMessage}
use Rattle.amo_call.specs.declared.taking.AfterTake.{AfterTake}
use Rattle.amo_call.specs.declared.taking.AfterTake.TheVariants as after
use Rattle.amo_call.specs.declared.taking.TakeTold.TheVariants as told
use Rattle.amo_call.specs.declared.answer.Response.{Response}
use Rattle.amo_call.specs.declared.pages.Page.{Page}
use Rattle.amo_call.specs.Heard.{Answered, ToQuestion}
use Rattle.amo_call.specs.Pages.{TellsPage}
use Rattle.amo_call.specs.Request.{got_target}
use Rattle.amo_call.specs.Naming.{TakesAnew}
use Rattle.amo_call.specs.Takes.{IsForgotten, IsFound, IsGot, IsRead, IsTaking, IsUnread, OfPage, TellsNothingGot}
use Rattle.amo_call.proofs.Puts.{at_some}
use Rattle.amo_call.proofs.Takes.{goes_on_behind, is_got_ok, is_last}
use Rattle.amo_call.proofs.taking.look_back.Goals as goal

pub pages-init : goal.pages-init
pages-init g c = (c.requires.saved, IsUnread)

pub returns-in_default-3-clause-told : goal.returns-in_default-3-clause-told
returns-in_default-3-clause-told g c =
    let kept = c.args.kept in
    let stream = kept.claim.stream in
    let first = c.in-Taking.first in
    let line = c.pages.from in
    let response = c.in-Some.response in
    let taking : IsTaking stream first kept = record { stream_is = refl; from_is = c.in-Taking.is } in
    let answered : Answered g.C.Caller.heard (got_target stream line) response = record {
      request = c.in_ok-request.request;
      asked = record { method_is = c.in_ok-request.ensures.method; target_is = c.in_ok-request.ensures.target };
      answered = at_some c.in_ok-response.field-0 (λ (r : Response). g.C.Caller.heard (ToQuestion c.in_ok-request.request r)) c.in-Some.response c.in-Some.is c.in_ok-response.ensures.heard;
    } in
    OfPage kept first line (IsFound kept refl) taking c.requires.over c.pages.invariant.1 answered

pub returns-then-page-from-clause-told : goal.returns-then-page-from-clause-told
returns-then-page-from-clause-told g c =
    let kept = c.args.kept in
    let stream = kept.claim.stream in
    let first = c.in-Taking.first in
    let line = c.pages.from in
    let response = c.in-Some.response in
    let taking : IsTaking stream first kept = record { stream_is = refl; from_is = c.in-Taking.is } in
    let answered : Answered g.C.Caller.heard (got_target stream line) response = record {
      request = c.in_ok-request.request;
      asked = record { method_is = c.in_ok-request.ensures.method; target_is = c.in_ok-request.ensures.target };
      answered = at_some c.in_ok-response.field-0 (λ (r : Response). g.C.Caller.heard (ToQuestion c.in_ok-request.request r)) c.in-Some.response c.in-Some.is c.in_ok-response.ensures.heard;
    } in
    let page = c.in-Some-2.page in
    let tells : TellsPage stream line page response = at_some c.in_ok-page.field-0 (λ (p : Page). TellsPage stream line p response) page c.in-Some-2.is c.in_ok-page.ensures.found in
    let behind : line < page.lines.from = omega (arith, c.if-page-from.true) in
    IsForgotten kept first line (IsFound kept refl) taking c.requires.over c.pages.invariant.1 page response answered tells behind

pub returns-in-Some-first-clause-told : goal.returns-in-Some-first-clause-told
returns-in-Some-first-clause-told g c =
    let kept = c.args.kept in
    let stream = kept.claim.stream in
    let first = c.in-Taking.first in
    let line = c.pages.from in
    let response = c.in-Some.response in
    let taking : IsTaking stream first kept = record { stream_is = refl; from_is = c.in-Taking.is } in
    let answered : Answered g.C.Caller.heard (got_target stream line) response = record {
      request = c.in_ok-request.request;
      asked = record { method_is = c.in_ok-request.ensures.method; target_is = c.in_ok-request.ensures.target };
      answered = at_some c.in_ok-response.field-0 (λ (r : Response). g.C.Caller.heard (ToQuestion c.in_ok-request.request r)) c.in-Some.response c.in-Some.is c.in_ok-response.ensures.heard;
    } in
    let page = c.in-Some-2.page in
    let tells : TellsPage stream line page response = at_some c.in_ok-page.field-0 (λ (p : Page). TellsPage stream line p response) page c.in-Some-2.is c.in_ok-page.ensures.found in
    let whole : page.lines.from ≤ line = omega (arith, c.if-page-from.false) in
    let C = g.C.Caller in
    let caller = c.keep.new.caller in
    let got = c.in-Some-first.got in
    is_got_ok C.heard stream c.args.by.now (C.is_silent caller) (C.saved caller) c.keep.result kept got.line got.message (record {
      from = first;
      taking = taking;
      over = c.requires.over;
      at = line;
      read = c.pages.invariant.1;
      response = response;
      answered = answered;
      page = page;
      told = tells;
      whole = whole;
      first = c.in-Some-first.is;
    }) (subst (λ (t : GotMessage). IfOk c.keep.result (λ (a : AfterTake). a ≡ after.Told (told.Taken kept.claim t.line t.message))) c.in-Some-first.got-is c.keep.ensures.told)

pub returns-then-not-page-clause-told : goal.returns-then-not-page-clause-told
returns-then-not-page-clause-told g c =
    let kept = c.args.kept in
    let stream = kept.claim.stream in
    let first = c.in-Taking.first in
    let line = c.pages.from in
    let response = c.in-Some.response in
    let taking : IsTaking stream first kept = record { stream_is = refl; from_is = c.in-Taking.is } in
    let answered : Answered g.C.Caller.heard (got_target stream line) response = record {
      request = c.in_ok-request.request;
      asked = record { method_is = c.in_ok-request.ensures.method; target_is = c.in_ok-request.ensures.target };
      answered = at_some c.in_ok-response.field-0 (λ (r : Response). g.C.Caller.heard (ToQuestion c.in_ok-request.request r)) c.in-Some.response c.in-Some.is c.in_ok-response.ensures.heard;
    } in
    let page = c.in-Some-2.page in
    let tells : TellsPage stream line page response = at_some c.in_ok-page.field-0 (λ (p : Page). TellsPage stream line p response) page c.in-Some-2.is c.in_ok-page.ensures.found in
    let whole : page.lines.from ≤ line = omega (arith, c.if-page-from.false) in
    let none : TellsNothingGot stream line page response = record { told = tells; none = c.in_default-first.is; whole = whole } in
    let last : page.lines.more ≡ false = is_last page.lines.more c.if-not-page.true in
    let C = g.C.Caller in
    let caller = c.begin_behind.new.caller in
    goes_on_behind C.heard stream c.args.by.now page.lines.behind (C.is_silent caller) (C.saved caller) c.begin_behind.result kept (record {
      from = first;
      taking = taking;
      over = c.requires.over;
      nothing = record {
        line = line;
        read = c.pages.invariant.1;
        response = response;
        answered = answered;
        page = page;
        told = none;
        last = last;
        behind_is = refl;
      };
    }) c.begin_behind.ensures.told

pub pages-preserved : goal.pages-preserved
pages-preserved g c =
    let kept = c.args.kept in
    let stream = kept.claim.stream in
    let first = c.in-Taking.first in
    let line = c.pages.from in
    let response = c.in-Some.response in
    let taking : IsTaking stream first kept = record { stream_is = refl; from_is = c.in-Taking.is } in
    let answered : Answered g.C.Caller.heard (got_target stream line) response = record {
      request = c.in_ok-request.request;
      asked = record { method_is = c.in_ok-request.ensures.method; target_is = c.in_ok-request.ensures.target };
      answered = at_some c.in_ok-response.field-0 (λ (r : Response). g.C.Caller.heard (ToQuestion c.in_ok-request.request r)) c.in-Some.response c.in-Some.is c.in_ok-response.ensures.heard;
    } in
    let page = c.in-Some-2.page in
    let tells : TellsPage stream line page response = at_some c.in_ok-page.field-0 (λ (p : Page). TellsPage stream line p response) page c.in-Some-2.is c.in_ok-page.ensures.found in
    let whole : page.lines.from ≤ line = omega (arith, c.if-page-from.false) in
    let none : TellsNothingGot stream line page response = record { told = tells; none = c.in_default-first.is; whole = whole } in
    (c.ask_until.ensures.saved ∙ c.pages.invariant.0, IsRead line page response c.pages.invariant.1 answered none)

pub keep-requires : goal.keep-requires
keep-requires g c =
    let kept = c.args.kept in
    let stream = kept.claim.stream in
    let first = c.in-Taking.first in
    let line = c.pages.from in
    let response = c.in-Some.response in
    let taking : IsTaking stream first kept = record { stream_is = refl; from_is = c.in-Taking.is } in
    let answered : Answered g.C.Caller.heard (got_target stream line) response = record {
      request = c.in_ok-request.request;
      asked = record { method_is = c.in_ok-request.ensures.method; target_is = c.in_ok-request.ensures.target };
      answered = at_some c.in_ok-response.field-0 (λ (r : Response). g.C.Caller.heard (ToQuestion c.in_ok-request.request r)) c.in-Some.response c.in-Some.is c.in_ok-response.ensures.heard;
    } in
    let page = c.in-Some-2.page in
    let tells : TellsPage stream line page response = at_some c.in_ok-page.field-0 (λ (p : Page). TellsPage stream line p response) page c.in-Some-2.is c.in_ok-page.ensures.found in
    let whole : page.lines.from ≤ line = omega (arith, c.if-page-from.false) in
    IsGot kept (c.ask_until.ensures.saved ∙ c.pages.invariant.0) refl (record {
      from = first;
      taking = taking;
      over = c.requires.over;
      at = line;
      read = c.pages.invariant.1;
      response = response;
      answered = answered;
      page = page;
      told = tells;
      whole = whole;
      first = subst (λ (t : GotMessage). page.first ≡ Some t) (sym c.in-Some-first.got-is) c.in-Some-first.is;
    })

pub begin_behind-requires : goal.begin_behind-requires
begin_behind-requires g c =
    let kept = c.args.kept in
    let stream = kept.claim.stream in
    let first = c.in-Taking.first in
    let line = c.pages.from in
    let response = c.in-Some.response in
    let taking : IsTaking stream first kept = record { stream_is = refl; from_is = c.in-Taking.is } in
    let answered : Answered g.C.Caller.heard (got_target stream line) response = record {
      request = c.in_ok-request.request;
      asked = record { method_is = c.in_ok-request.ensures.method; target_is = c.in_ok-request.ensures.target };
      answered = at_some c.in_ok-response.field-0 (λ (r : Response). g.C.Caller.heard (ToQuestion c.in_ok-request.request r)) c.in-Some.response c.in-Some.is c.in_ok-response.ensures.heard;
    } in
    let page = c.in-Some-2.page in
    let tells : TellsPage stream line page response = at_some c.in_ok-page.field-0 (λ (p : Page). TellsPage stream line p response) page c.in-Some-2.is c.in_ok-page.ensures.found in
    let whole : page.lines.from ≤ line = omega (arith, c.if-page-from.false) in
    let none : TellsNothingGot stream line page response = record { told = tells; none = c.in_default-first.is; whole = whole } in
    let last : page.lines.more ≡ false = is_last page.lines.more c.if-not-page.true in
    TakesAnew kept (c.ask_until.ensures.saved ∙ c.pages.invariant.0) (record {
      from = first;
      taking = taking;
      over = c.requires.over;
      nothing = record {
        line = line;
        read = c.pages.invariant.1;
        response = response;
        answered = answered;
        page = page;
        told = none;
        last = last;
        behind_is = refl;
      };
    })
