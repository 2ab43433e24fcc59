use Rattle.std.proofs.Common.{rules, ◌≡◌, ℕ, List, [], ◌++◌, ◌+◌, ◌-◌, ◌*◌, ◌<◌, get_or, drop, sym, ◌∙◌, ap}
use Rattle.std.specs.Char.{IsAsciiDigit}
use Rattle.std.specs.Fmt.{decimal}
use Rattle.std.proofs.lemmas.List.{drop_all, get_or-drop}
use native.Mathlib.Numerals.{unary_clauses}
use Rattle.amo_text.proofs.Digits.{front_begins, front_spells, front_too_large, one_more, below_more, whole_rest, some_digits, all_digits, none_in_nothing}
use Rattle.amo_text.proofs.decimal.decimal_in_front.Goals as goal

pub returns-then-not-begins_as_decimal-clause-none : goal.returns-then-not-begins_as_decimal-clause-none
returns-then-not-begins_as_decimal-clause-none c = λ n rest small none e.
    let begins = c.begins_as_decimal.ensures.1 (front_begins n c.args.text.now rest small none e) in
    cc (begins, c.if-not-begins_as_decimal.true)

pub returns-then-not-is_ascii_digit-clause-found : goal.returns-then-not-is_ascii_digit-clause-found
returns-then-not-is_ascii_digit-clause-found c =
    let text = c.args.text.now in
    let place = c.loop-place.place in
    let begins = c.begins_as_decimal.ensures.0 c.if-not-begins_as_decimal.false in
    let other : ¬ (IsAsciiDigit (get_or text place 0)) = λ digit. search rules in
    let some : 0 < place = some_digits text place begins.0 other in
    rw (whole_rest text place) (
      c.loop-place.invariant.small,
      front_spells text c.loop-place.number place c.loop-place.auto.place-end c.loop-place.invariant.digits c.loop-place.invariant.value c.loop-place.invariant.small some begins.1,
      λ digit. other (simp unary_clauses at (rw (get_or-drop place text 0 0) at digit)),
    )

pub returns-in_err-number-clause-none : goal.returns-in_err-number-clause-none
returns-in_err-number-clause-none c = rw c.from_residual.ensures (λ n rest small none e.
    let digit : IsAsciiDigit (get_or c.args.text.now c.loop-place.place 0) = search rules in
    front_too_large n c.args.text.now rest c.loop-place.place small none
    (below_more c.args.text.now c.loop-place.place c.loop-place.invariant.digits digit) (rw c.loop-place.invariant.value at c.in_err-number.ensures.none) e)

pub loop-place-preserved : goal.loop-place-preserved
loop-place-preserved c =
    let text = c.args.text.now in
    let digit : IsAsciiDigit (get_or text c.loop-place.place 0) = search rules in
    record {
      digits = below_more text c.loop-place.place c.loop-place.invariant.digits digit;
      value = c.in_ok-number.ensures.found.0 ∙ ap (λ v. v * 10 + (get_or text c.loop-place.place 0 - 48)) c.loop-place.invariant.value ∙ sym (one_more text c.loop-place.place c.loop-place-test.true digit);
      small = c.in_ok-number.ensures.found.1;
    }

pub returns-clause-found : goal.returns-clause-found
returns-clause-found c =
    let text = c.args.text.now in
    let place = c.loop-place.place in
    let begins = c.begins_as_decimal.ensures.0 c.if-not-begins_as_decimal.false in
    let past : drop place text ≡ [] = drop_all place text c.loop-place-test.false in (
      c.loop-place.invariant.small,
      front_spells text c.loop-place.number place c.loop-place.auto.place-end c.loop-place.invariant.digits c.loop-place.invariant.value c.loop-place.invariant.small
          (all_digits text place begins.0 c.loop-place-test.false) begins.1 ∙ ap (λ (t : List ℕ). decimal c.loop-place.number ++ t) past,
      none_in_nothing,
    )
