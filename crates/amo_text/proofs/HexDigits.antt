-- Hexadecimal digits, by pairs.
use Rattle.std.proofs.Common.{◌≡◌, ◌≢◌, ℕ, zero, suc, ◌+◌, ◌*◌, ◌/◌, ◌%◌, ◌<◌, ◌≤◌, Bool, true, false, eqb, ltb, ◌&&◌, List, [], ◌∷◌, ◌++◌, length, take, slice_index, codes, Result, Ok, Err, refl, sym, ◌∙◌, ap, arith}
use Rattle.std.specs.Prelude.{MatchResult}
use Rattle.std.specs.Char.{digit_value}
use Rattle.std.specs.List.{list_all}
use Rattle.std.specs.Cmp.Lexicographic.{pointwise}
use Rattle.std.proofs.lemmas.Bool.{agree_below_at, and_parts, ltb-true, eqb-true}
use Rattle.std.proofs.lemmas.Bool.Decides.{Decides-eqb}
use Rattle.std.proofs.lemmas.List.{take_at}
use Rattle.std.proofs.lemmas.Result.{MatchResult-at_ok}
use Rattle.std.proofs.lemmas.Slice.Eq.{slice_eq-Decides}
use Rattle.hex.specs.Hex.{IsBytes, encode_lower, encode_with, lower_digits, decode_of, decode_sized}
use Rattle.hex.specs.declared.error.FromHexError.{FromHexError}
use Rattle.hex.proofs.HexLemmas.{length-encode_with, decode_of-encode_lower, decode_of-same, decode_sized-twice}
use Rattle.amo_text.specs.Hexadecimal.{hex, is_hex_digit, IsPairs}

-- each place of the table has a digit
lower_digits-digit : (v : ℕ) → v < 16 → is_hex_digit (slice_index lower_digits v) ≡ true
lower_digits-digit v small = agree_below_at (λ k. is_hex_digit (slice_index lower_digits k)) (λ k. true) 16 v refl small

-- bytes are spelt by digits
pub encode_lower-digits : (m : List ℕ) → IsBytes m → list_all is_hex_digit (encode_lower m) ≡ true
unfolding encode_with
encode_lower-digits [] bytes = refl
encode_lower-digits (b ∷ m) bytes =
    let byte = bytes 0 in
    rw (lower_digits-digit (b / 16) (omega arith), lower_digits-digit (b % 16) (omega arith)) (encode_lower-digits m (λ k. bytes (suc k)))

-- a digit stands in the table at its value
abbrev stands_at_value : ℕ → Bool
stands_at_value c = ltb (digit_value c) 16 && eqb (slice_index lower_digits (digit_value c)) c

-- each digit does
lower_digits-digit_value : (c : ℕ) → is_hex_digit c ≡ true → (digit_value c < 16) × (slice_index lower_digits (digit_value c) ≡ c)
lower_digits-digit_value c digit =
    let within : c < 103 = grind arith in
    let tested = agree_below_at (λ k. is_hex_digit k && stands_at_value k) is_hex_digit 103 c refl within in
    let parts = and_parts _ _ (and_parts _ _ (tested ∙ digit)).1 in
    (ltb-true _ _ parts.0, eqb-true _ _ parts.1)

IsBytes-cons : (b : ℕ) (m : List ℕ) → b < 256 → IsBytes m → IsBytes (b ∷ m)
IsBytes-cons b m byte bytes zero = byte
IsBytes-cons b m byte bytes (suc i) = bytes i

-- pairs of digits spell bytes
bytes_of_pairs : (text : List ℕ) → length text % 2 ≡ 0 → list_all is_hex_digit text ≡ true → (m : List ℕ) × IsBytes m × (encode_lower m ≡ text)
unfolding encode_with
bytes_of_pairs [] even digits = ([], λ k. omega arith, refl)
bytes_of_pairs (a ∷ []) even digits = absurd (omega arith)
bytes_of_pairs (a ∷ b ∷ rest) even digits =
    let first = and_parts (is_hex_digit a) _ digits in
    let second = and_parts (is_hex_digit b) _ first.1 in
    let high = lower_digits-digit_value a first.0 in
    let low = lower_digits-digit_value b second.0 in
    let others = bytes_of_pairs rest (omega arith) second.1 in
    let byte = digit_value a * 16 + digit_value b in
    let upper : byte / 16 ≡ digit_value a = omega arith in
    let lower : byte % 16 ≡ digit_value b = omega arith in
    (byte ∷ others.0, IsBytes-cons byte others.0 (omega arith) others.1, rw (upper, lower, high.1, low.1, others.2) refl)

hex-nonempty : (m : List ℕ) → 0 < length m → hex m ≡ encode_lower m
hex-nonempty [] some = absurd (omega arith)
hex-nonempty (b ∷ m) some = refl

-- pairs of digits spell half as many bytes
pub spelt_by_pairs : (text : List ℕ) → IsPairs text → (m : List ℕ) × IsBytes m × (text ≡ hex m) × (length text / 2 ≡ length m)
spelt_by_pairs text pairs =
    let (m, bytes, spelt) = bytes_of_pairs text pairs.even pairs.digits in
    let long = sym (ap length spelt) ∙ length-encode_with lower_digits m in
    let some = pairs.some in
    (m, bytes, sym (hex-nonempty m (omega arith) ∙ spelt), omega arith)

-- the HEX of some bytes is decoded to them
pub spells_decoded : (text m out rest : List ℕ) (n : ℕ) (r : Result Unit FromHexError) → IsBytes m → text ≡ hex m → n ≡ length m → 0 < n
    → MatchResult (decode_sized text n) (λ bytes. (r ≡ Ok tt) × (out ≡ bytes)) (λ e. r ≡ Err e) → text ≡ hex (take n (out ++ rest))
spells_decoded text m out rest n r bytes spelt count some answer =
    let same : text ≡ encode_lower m = spelt ∙ hex-nonempty m (omega arith) in
    let long = ap length same ∙ length-encode_with lower_digits m in
    let read : decode_sized text n ≡ Ok m = decode_sized-twice text n (omega arith) ∙ ap decode_of same ∙ decode_of-encode_lower m bytes in
    let written = MatchResult-at_ok _ _ m read answer in
    rw (written.1, take_at m rest n (omega arith)) spelt

-- a text that is no dash and spells bytes is two digits for each
pub IsPairs-hex : (text m : List ℕ) → IsBytes m → text ≢ codes "-" → text ≡ hex m → IsPairs text × (length text ≡ 2 * length m)
IsPairs-hex text [] bytes apart e = absurd (apart e)
IsPairs-hex text (b ∷ m) bytes apart e =
    let long : length text ≡ 2 * length (b ∷ m) = ap length e ∙ length-encode_with lower_digits (b ∷ m) in
    (record { some = omega arith; even = omega arith; digits = rw e (encode_lower-digits (b ∷ m) bytes) }, long)

-- texts that compare unlike
pub texts_differ : (xs ys : List ℕ) → false ≡ pointwise eqb xs ys → xs ≢ ys
texts_differ xs ys e same = let h : false ≡ true = (slice_eq-Decides Decides-eqb xs ys false e).1 same in cc

-- bytes have one spelling
pub hex-injective : (m n : List ℕ) → IsBytes m → IsBytes n → hex m ≡ hex n → m ≡ n
unfolding encode_with
hex-injective [] [] first second e = refl
hex-injective [] (c ∷ n) first second e = cc
hex-injective (b ∷ m) [] first second e = cc
hex-injective (b ∷ m) (c ∷ n) first second e =
    decode_of-same (encode_lower (b ∷ m)) (b ∷ m) (c ∷ n) (decode_of-encode_lower (b ∷ m) first) (ap decode_of e ∙ decode_of-encode_lower (c ∷ n) second)

-- bytes of one spelling are as many
pub same_length : (text m n : List ℕ) → IsBytes m → IsBytes n → text ≡ hex m → text ≡ hex n → length m ≡ length n
same_length text m n first second e f = ap length (hex-injective m n first second (sym e ∙ f))

-- a text of few digits spells few bytes
pub few_bytes : (text m : List ℕ) (k : ℕ) → text ≡ hex m → length text ≤ 2 * k → length m ≤ k
few_bytes text [] k e few = omega arith
few_bytes text (b ∷ m) k e few = let long = ap length e ∙ length-encode_with lower_digits (b ∷ m) in omega arith
