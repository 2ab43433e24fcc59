use Rattle.std.proofs.Common.{sym, ◌∙◌}
use Rattle.std.specs.Fmt.{decimal}
use Rattle.amo_text.proofs.Cuts.{one_cut, no_cut, Lacks-decimal}
use Rattle.amo_call.proofs.scan.number_before.Goals as goal

pub returns-in_err-digits-clause-none : goal.returns-in_err-digits-clause-none
returns-in_err-digits-clause-none c = rw c.from_residual.ensures (λ number rest small. no_cut c.args.end c.args.text.now (decimal number) rest c.in_err-digits.ensures.none)

pub returns-in_err-read_decimal-clause-none : goal.returns-in_err-read_decimal-clause-none
returns-in_err-read_decimal-clause-none c = rw c.from_residual-in_err-read_decimal.ensures (λ number rest small e.
    let cut = c.in_ok-digits.ensures.found in
    let same = one_cut c.args.end c.in_ok-digits.digits.now c.in_ok-digits.rest.now (decimal number) rest cut.1 (Lacks-decimal c.args.end number small c.requires) (sym cut.0 ∙ e) in
    c.in_err-read_decimal.ensures.none number small same.0)
