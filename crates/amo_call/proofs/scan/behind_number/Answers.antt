use Rattle.std.proofs.Common.{sym, ◌∙◌}
use Rattle.amo_call.proofs.Ends.{one_number}
use Rattle.amo_call.proofs.scan.behind_number.Goals as goal

pub returns-in_err-found-clause-none : goal.returns-in_err-found-clause-none
returns-in_err-found-clause-none c = rw c.from_residual.ensures (λ rest. c.in_err-found.ensures.none c.args.number rest c.ranges.number.fits)

pub returns-else-found-number-clause-none : goal.returns-else-found-number-clause-none
returns-else-found-number-clause-none c = λ rest e.
    let found = c.in_ok-found.ensures.found in
    let same = one_number c.args.end c.in_ok-found.found c.args.number c.in_ok-found.rest.now rest c.requires found.0 c.ranges.number.fits (sym found.1 ∙ e) in
    c.if-found-number.false same.0
