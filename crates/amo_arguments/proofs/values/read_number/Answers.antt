use Rattle.std.proofs.Common.{◌≡◌, sym, ◌∙◌, arith}
use Rattle.std.proofs.lemmas.Fmt.{decimal_injective}
use Rattle.amo_arguments.proofs.values.read_number.Goals as goal

pub returns-in_default-clause-none : goal.returns-in_default-clause-none
returns-in_default-clause-none c = λ n above below e.
    let same : c.in-Some.number ≡ n = decimal_injective c.in-Some.number n c.in-Some.ensures.fits (omega arith) (sym c.in-Some.ensures.found ∙ e) in
    omega arith

pub returns-in_default-2-clause-none : goal.returns-in_default-2-clause-none
returns-in_default-2-clause-none c = λ n above below e.
    let same : c.in-Some.number ≡ n = decimal_injective c.in-Some.number n c.in-Some.ensures.fits (omega arith) (sym c.in-Some.ensures.found ∙ e) in
    omega arith
