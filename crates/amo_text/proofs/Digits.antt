-- Decimal digits, read from the left.
use Rattle.std.proofs.Common.{◌≡◌, ℕ, Bool, true, false, ltb, [], ◌∷◌, ◌++◌, zero, suc, ◌+◌, ◌-◌, ◌*◌, ◌^◌, ◌<◌, ◌≤◌, ◌≢◌, List, length, take, drop, get_or, refl, sym, ◌∙◌, ap, subst, arith}
use Rattle.std.proofs.lemmas.List.{take_all, length-take-le, get_or_append_left, get_or-append_right, get_or-take, take-append-drop, take-append-le, append-nil, length-drop}
use Rattle.std.proofs.lemmas.Bool.{ltb-true, ltb-false}
use Rattle.std.specs.Fmt.{decimal}
use Rattle.std.specs.Char.{IsAsciiDigit}
use Rattle.std.specs.Str.Parse.{digits_value, AllDigits}
use Rattle.std.proofs.lemmas.Fmt.{decimal_injective, decimal_is_IsNumeral, decimal_nonempty, decimal_digit, first_decimal, decimal-digits_value}
use Rattle.std.proofs.lemmas.Str.Parse.{digit_at, digit_from_value, numerals_by_value, tells_by_index, digits_value-take-le}
use Rattle.std.proofs.lemmas.Int.Digits.{digits_value_more}
use Rattle.std.proofs.lemmas.Str.{digit_value_digit}
use Rattle.amo_text.specs.Decimal.{HasNoDigitInFront}

-- each byte is a digit
abbrev pub AreDigits : List ℕ → Type 0
AreDigits ds = (i : ℕ) → i < length ds → IsAsciiDigit (get_or ds i 0)

-- the first byte is a digit, and it is a zero only where it is the whole number
pub begins_as_decimal : (n : ℕ) → n < 2 ^ 64 → IsAsciiDigit (get_or (decimal n) 0 0) × (get_or (decimal n) 0 0 ≡ 48 → length (decimal n) ≡ 1)
begins_as_decimal n small =
    (digit_at (decimal n) 0 (decimal_is_IsNumeral n small).0.1 (decimal_nonempty n small), lead n small)
  where
    lead : (n : ℕ) → n < 2 ^ 64 → get_or (decimal n) 0 0 ≡ 48 → length (decimal n) ≡ 1
    lead zero small first = ap length (decimal_digit 0 (omega arith))
    lead (suc n) small first = absurd (omega (arith, first_decimal (suc n) (omega arith) small))

-- each byte of a decimal is a digit
pub decimal_digits : (n : ℕ) (ds : List ℕ) (i : ℕ) → n < 2 ^ 64 → ds ≡ decimal n → i < length ds → IsAsciiDigit (get_or ds i 0)
decimal_digits n ds i small same within =
    rw same (digit_at (decimal n) i (decimal_is_IsNumeral n small).0.1 (rw same at within))

-- one digit more
pub below_more : (ds : List ℕ) (k : ℕ) → ((i : ℕ) → i < k → IsAsciiDigit (get_or ds i 0)) → IsAsciiDigit (get_or ds k 0)
    → (i : ℕ) → i < k + 1 → IsAsciiDigit (get_or ds i 0)
below_more ds k before digit i within = by (ltb i k) refl
  where
    by : (b : Bool) → ltb i k ≡ b → IsAsciiDigit (get_or ds i 0)
    by true e = before i (ltb-true i k e)
    by false e = let same : i ≡ k = omega (arith, ltb-false i k e) in rw same digit

-- a text of digits that begins as a decimal spells its value
pub spells_read : (ds : List ℕ) (n k : ℕ) → k ≤ length ds → length ds ≤ k → ((i : ℕ) → i < k → IsAsciiDigit (get_or ds i 0))
    → n ≡ digits_value 10 (take k ds) → n < 2 ^ 64 → IsAsciiDigit (get_or ds 0 0) → (get_or ds 0 0 ≡ 48 → length ds ≡ 1) → ds ≡ decimal n
spells_read ds n k within all digits value small first lead =
    let whole : take k ds ≡ ds = take_all k ds all in
    let same : n ≡ digits_value 10 ds = value ∙ ap (digits_value 10) whole in
    let each : AreDigits ds = λ i below. digits i (omega arith) in
    sym (ap decimal same ∙ decimal-digits_value (numerals_by_value _ tells_by_index) ds each (some ds first) lead (omega arith))
  where
    some : (ds : List ℕ) → IsAsciiDigit (get_or ds 0 0) → 0 < length ds
    some [] first = absurd (omega arith)
    some (d ∷ ds) first = omega arith

-- the value of the first digits and one more
pub one_more : (ds : List ℕ) (i : ℕ) → i < length ds → IsAsciiDigit (get_or ds i 0)
    → digits_value 10 (take (i + 1) ds) ≡ digits_value 10 (take i ds) * 10 + (get_or ds i 0 - 48)
one_more ds i within digit = digits_value_more 10 ds i within ∙ ap (λ d. digits_value 10 (take i ds) * 10 + d) (let value = digit_value_digit (get_or ds i 0) digit in omega arith)

-- what begins with digits of too large a value is no number's decimal
pub too_large : (n : ℕ) (ds : List ℕ) (i : ℕ) → n < 2 ^ 64 → i < length ds → 2 ^ 64 ≤ digits_value 10 (take i ds) * 10 + (get_or ds i 0 - 48) → ds ≢ decimal n
too_large n ds i small within large same =
    let digit = decimal_digits n ds i small same within in
    let more = one_more ds i within digit in
    let front = digits_value-take-le 10 ds (i + 1) (omega arith) in
    let whole : digits_value 10 ds ≡ n = ap (digits_value 10) same ∙ (decimal_is_IsNumeral n small).1 in
    omega arith

-- a byte behind a front
behind_front : (front rest : List ℕ) (k : ℕ) → length front ≡ k → get_or (front ++ rest) k 0 ≡ get_or rest 0 0
behind_front front rest k long = rw long at (get_or-append_right front rest (length front) (length front) 0 refl (omega arith) ∙ ap (λ i. get_or rest i 0) (let none : length front - length front ≡ 0 = omega arith in none))

-- a text with a number's digits in front, and no digit behind them, begins as a decimal
pub front_begins : (n : ℕ) (ds rest : List ℕ) → n < 2 ^ 64 → HasNoDigitInFront rest → ds ≡ decimal n ++ rest
    → IsAsciiDigit (get_or ds 0 0) × (get_or ds 0 0 ≡ 48 → ¬ (IsAsciiDigit (get_or ds 1 0)))
front_begins n ds rest small none e =
    let begins = begins_as_decimal n small in
    let first : get_or ds 0 0 ≡ get_or (decimal n) 0 0 = ap (λ t. get_or t 0 0) e ∙ get_or_append_left (decimal n) rest 0 0 (decimal_nonempty n small) in (
      rw first begins.0,
      λ naught digit.
          let behind : get_or ds 1 0 ≡ get_or rest 0 0 = ap (λ t. get_or t 1 0) e ∙ behind_front (decimal n) rest 1 (begins.1 (sym first ∙ naught)) in
          none (rw behind at digit),
    )

-- the first digits of a text that begins as a decimal, read as a number
pub front_spells : (ds : List ℕ) (n k : ℕ) → k ≤ length ds → ((i : ℕ) → i < k → IsAsciiDigit (get_or ds i 0)) → n ≡ digits_value 10 (take k ds) → n < 2 ^ 64
    → 0 < k → (get_or ds 0 0 ≡ 48 → ¬ (IsAsciiDigit (get_or ds 1 0))) → ds ≡ decimal n ++ drop k ds
front_spells ds n k within digits value small some lead =
    let long : length (take k ds) ≡ k = length-take-le k ds within in
    let first : get_or (take k ds) 0 0 ≡ get_or ds 0 0 = get_or-take k ds 0 0 some in
    let each : (i : ℕ) → i < k → IsAsciiDigit (get_or (take k ds) i 0) = λ i below. rw (get_or-take k ds i 0 below) (digits i below) in
    let same : take k (take k ds) ≡ take k ds = take_all k (take k ds) (omega arith) in
    let spelt = spells_read (take k ds) n k (omega arith) (omega arith) each (value ∙ ap (digits_value 10) (sym same)) small (each 0 some)
    (λ naught. long ∙ one (sym first ∙ naught)) in
    sym (take-append-drop k ds) ∙ ap (λ (t : List ℕ). t ++ drop k ds) spelt
  where
    one : get_or ds 0 0 ≡ 48 → k ≡ 1
    one naught = by (ltb 1 k) refl
      where
        by : (b : Bool) → ltb 1 k ≡ b → k ≡ 1
        by true e = absurd (lead naught (digits 1 (ltb-true 1 k e)))
        by false e = omega (arith, ltb-false 1 k e)

-- what begins with digits of too large a value has no number in front, behind which no digit stands
pub front_too_large : (n : ℕ) (ds rest : List ℕ) (i : ℕ) → n < 2 ^ 64 → HasNoDigitInFront rest → ((j : ℕ) → j < i + 1 → IsAsciiDigit (get_or ds j 0))
    → 2 ^ 64 ≤ digits_value 10 (take i ds) * 10 + (get_or ds i 0 - 48) → ds ≢ decimal n ++ rest
front_too_large n ds rest i small none digits large e = by (ltb i (length (decimal n))) refl
  where
    by : (b : Bool) → ltb i (length (decimal n)) ≡ b → ⊥
    by true inside =
        let within = ltb-true i (length (decimal n)) inside in
        let front : take i ds ≡ take i (decimal n) = ap (take i) e ∙ take-append-le i (decimal n) rest (omega arith) in
        let here : get_or ds i 0 ≡ get_or (decimal n) i 0 = ap (λ t. get_or t i 0) e ∙ get_or_append_left (decimal n) rest 0 i within in
        too_large n (decimal n) i small within (rw (front, here) at large) refl
    by false outside =
        let past = ltb-false i (length (decimal n)) outside in
        let behind : get_or ds (length (decimal n)) 0 ≡ get_or rest 0 0 = ap (λ t. get_or t (length (decimal n)) 0) e ∙ behind_front (decimal n) rest (length (decimal n)) refl in
        none (rw behind at (digits (length (decimal n)) (omega arith)))

-- no digit stands in front of nothing, nor of a space
pub none_in_nothing : HasNoDigitInFront []
none_in_nothing digit = omega arith

pub none_in_space : (rest : List ℕ) → HasNoDigitInFront (32 ∷ rest)
none_in_space rest digit = omega arith

-- a text has one number in front, behind which no digit stands
one_front : (a b x y : List ℕ) → AllDigits 10 a → AllDigits 10 b → HasNoDigitInFront x → HasNoDigitInFront y → a ++ x ≡ b ++ y → (a ≡ b) × (x ≡ y)
one_front [] [] x y p q none none' e = (refl, e)
one_front [] (c ∷ b) x y p q none none' e = absurd (none (subst (λ (t : List ℕ). IsAsciiDigit (get_or t 0 0)) (sym e) (digit_from_value c q.0)))
one_front (c ∷ a) [] x y p q none none' e = absurd (none' (subst (λ (t : List ℕ). IsAsciiDigit (get_or t 0 0)) e (digit_from_value c p.0)))
one_front (c ∷ a) (d ∷ b) x y p q none none' e =
    let head : c ≡ d = cc in
    let tail : a ++ x ≡ b ++ y = cc in
    let rest = one_front a b x y p.1 q.1 none none' tail in
    (rw (head, rest.0) refl, rest.1)

pub one_number : (m n : ℕ) (x y : List ℕ) → m < 2 ^ 64 → n < 2 ^ 64 → HasNoDigitInFront x → HasNoDigitInFront y → decimal m ++ x ≡ decimal n ++ y → (m ≡ n) × (x ≡ y)
one_number m n x y small small' none none' e =
    let front = one_front (decimal m) (decimal n) x y (decimal_is_IsNumeral m small).0.1 (decimal_is_IsNumeral n small').0.1 none none' e in
    (decimal_injective m n small small' front.0, front.1)

-- the digits of a number are the whole text, or something else stands in it
pub no_more : (m n : ℕ) (ds rest : List ℕ) → m < 2 ^ 64 → n < 2 ^ 64 → ds ≡ decimal m ++ rest → HasNoDigitInFront rest → ds ≡ decimal n → rest ≡ []
no_more m n ds rest small small' e none same =
    (one_number m n rest [] small small' none none_in_nothing (sym e ∙ same ∙ sym (append-nil (decimal n)))).1

-- what is behind a place
pub whole_rest : (ds : List ℕ) (k : ℕ) → take (length ds - k) (drop k ds) ≡ drop k ds
whole_rest ds k = take_all (length ds - k) (drop k ds) (let long = length-drop k ds in omega arith)

-- a text whose first byte is a digit has no other byte at its first place
pub some_digits : (ds : List ℕ) (k : ℕ) → IsAsciiDigit (get_or ds 0 0) → ¬ (IsAsciiDigit (get_or ds k 0)) → 0 < k
some_digits ds zero first other = absurd (other first)
some_digits ds (suc k) first other = omega arith

-- nor is it empty
pub all_digits : (ds : List ℕ) (k : ℕ) → IsAsciiDigit (get_or ds 0 0) → length ds ≤ k → 0 < k
all_digits [] k first all = absurd (omega arith)
all_digits (d ∷ ds) k first all = omega arith
