use Rattle.std.proofs.Common.{[], sym, ◌∙◌}
use Rattle.std.specs.Fmt.{decimal}
use Rattle.std.proofs.lemmas.List.{append-nil}
use Rattle.amo_text.proofs.Digits.{no_more, none_in_nothing}
use Rattle.amo_text.proofs.Readings.{not_empty}
use Rattle.amo_text.proofs.decimal.read_decimal.Goals as goal

pub returns-in_err-number-clause-none : goal.returns-in_err-number-clause-none
returns-in_err-number-clause-none c = rw c.from_residual.ensures (λ n small e. c.in_err-number.ensures.none n [] small none_in_nothing (e ∙ sym (append-nil (decimal n))))

pub returns-else-is_empty-clause-none : goal.returns-else-is_empty-clause-none
returns-else-is_empty-clause-none c = λ n small e.
    let found = c.in_ok-number.ensures.found in
    let none = no_more c.in_ok-number.number n c.args.text.now _ found.0 small found.1 found.2 e in
    not_empty c.in_ok-number.rest.now c.if-is_empty.ensures none
