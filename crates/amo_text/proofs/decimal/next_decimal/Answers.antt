use Rattle.std.proofs.Common.{ℕ, List, ◌∷◌, get_or, sym, ◌∙◌, ap}
use Rattle.amo_text.proofs.Digits.{one_number, none_in_space}
use Rattle.amo_text.proofs.Readings.{is_empty}
use Rattle.amo_text.proofs.decimal.next_decimal.Goals.{then-is_empty-via-then-is_empty, then-is_empty-via-else-is_empty+then-rest-ne32}
use Rattle.amo_text.proofs.decimal.next_decimal.Goals as goal

pub returns-then-is_empty-clause-none : goal.returns-then-is_empty-clause-none
returns-then-is_empty-clause-none c = λ n rest small e.
    let found = c.in_ok-number.ensures.found in
    let same = (one_number c.in_ok-number.number n _ (32 ∷ rest) found.0 small found.2 (none_in_space rest) (sym found.1 ∙ e)).1 in
    elim c.then-is_empty.branch [
      | then-is_empty-via-then-is_empty w ↦ let none = is_empty c.in_ok-number.rest.now w.if-is_empty.ensures in cc (same, none)
      | then-is_empty-via-else-is_empty+then-rest-ne32 w ↦ w.if-rest-ne32.true (ap (λ (t : List ℕ). get_or t 0 0) same)
    ]
