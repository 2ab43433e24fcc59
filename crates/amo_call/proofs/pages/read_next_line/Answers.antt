use Rattle.std.proofs.Common.{◌≡◌, arith}
use Rattle.amo_call.specs.Pages.{IsBehind}
use Rattle.amo_call.proofs.Measures.{none_without_end, passes_over, tells, tells_none}
use Rattle.amo_call.proofs.pages.read_next_line.Goals as goal

pub returns-in_err-text-clause-none : goal.returns-in_err-text-clause-none
returns-in_err-text-clause-none c = rw c.from_residual.ensures (λ line told.
    none_without_end line c.lines.rest.now c.in_err-text.ensures.none (c.lines.invariant.1.0 line told.fits told.body))

pub returns-in-Some-clause-found : goal.returns-in-Some-clause-found
returns-in-Some-clause-found c =
    let status : c.args.response.now.status ≡ 200 = cc (c.if-response-ne200.false) in
    tells c.args.response.now c.lines.rest.now c.in_ok-text.text.now c.in_ok-text.more.now c.in-Some.digits.now c.read_decimal.result status c.lines.invariant.0
    c.in_ok-text.ensures.found.0 c.in-Some.ensures.found c.read_decimal.ensures.found c.read_decimal.ensures.fits

pub returns-in-Some-clause-none : goal.returns-in-Some-clause-none
returns-in-Some-clause-none c =
    tells_none c.args.response.now c.lines.rest.now c.in_ok-text.text.now c.in_ok-text.more.now c.in-Some.digits.now c.read_decimal.result c.lines.invariant.1.0
    c.in_ok-text.ensures.found.0 c.in_ok-text.ensures.found.1 c.in-Some.ensures.found c.read_decimal.ensures.none

pub lines-preserved : goal.lines-preserved
lines-preserved c =
    let whole = c.lines.rest.now in
    let text = c.in_ok-text.text.now in
    let more = c.in_ok-text.more.now in
    let cut = c.in_ok-text.ensures.found in (
      (λ line there. c.lines.invariant.0 line (IsBehind whole text more cut.0 cut.1 c.in_default.ensures.none there)),
      (
        (λ line fits there. passes_over line whole text more fits cut.0 cut.1 c.in_default.ensures.none (c.lines.invariant.1.0 line fits there)),
        omega (arith, c.lines.invariant.1.1, c.in_ok-text.ensures.shorter),
      ),
    )
