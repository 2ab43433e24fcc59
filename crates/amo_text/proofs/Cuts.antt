-- Where a byte first stands, and where it does not.
use Rattle.std.proofs.Common.{◌≡◌, ◌≢◌, ℕ, ◌<◌, ◌^◌, true, false, List, [], ◌∷◌, ◌++◌, refl, sym, ap, arith}
use Rattle.std.specs.Fmt.{decimal}
use Rattle.std.specs.Int.{IsInRange}
use Rattle.std.specs.Str.Parse.{AllDigits}
use Rattle.std.specs.List.{list_all}
use Rattle.std.proofs.lemmas.Str.Parse.{digit_from_value}
use Rattle.std.proofs.lemmas.Fmt.{decimal_is_IsNumeral}
use Rattle.std.proofs.lemmas.Bool.{and_parts}
use Rattle.hex.specs.Hex.{IsBytes, encode_lower}
use Rattle.amo_text.specs.Hexadecimal.{hex, is_hex_digit}
use Rattle.amo_text.specs.Line.{Lacks, IsField}
use Rattle.amo_text.proofs.HexDigits.{encode_lower-digits}

pub Lacks-append : (byte : ℕ) (xs ys : List ℕ) → Lacks byte xs → Lacks byte ys → Lacks byte (xs ++ ys)
Lacks-append byte [] ys first second = second
Lacks-append byte (x ∷ xs) ys first second = (first.0, Lacks-append byte xs ys first.1 second)

-- a text has one first cut
pub one_cut : (byte : ℕ) (a x b y : List ℕ) → Lacks byte a → Lacks byte b → a ++ byte ∷ x ≡ b ++ byte ∷ y → (a ≡ b) × (x ≡ y)
one_cut byte [] x [] y p q e = (refl, cc)
one_cut byte [] x (c ∷ b) y p q e = let here : byte ≡ c = cc in absurd (q.0 (sym here))
one_cut byte (c ∷ a) x [] y p q e = let here : c ≡ byte = cc in absurd (p.0 here)
one_cut byte (c ∷ a) x (d ∷ b) y p q e =
    let head : c ≡ d = cc in
    let tail : a ++ byte ∷ x ≡ b ++ byte ∷ y = cc in
    let rest = one_cut byte a x b y p.1 q.1 tail in
    (let whole : c ∷ a ≡ d ∷ b = cc in whole, rest.1)

-- a text without the byte has none
pub no_cut : (byte : ℕ) (xs b y : List ℕ) → Lacks byte xs → xs ≢ b ++ byte ∷ y
no_cut byte [] [] y lacks e = cc
no_cut byte [] (c ∷ b) y lacks e = cc
no_cut byte (x ∷ xs) [] y lacks e = let here : x ≡ byte = cc in lacks.0 here
no_cut byte (x ∷ xs) (c ∷ b) y lacks e = let tail : xs ≡ b ++ byte ∷ y = cc in no_cut byte xs b y lacks.1 tail

Lacks-digits : (byte : ℕ) (ds : List ℕ) → ¬ (IsInRange 48 57 byte) → AllDigits 10 ds → Lacks byte ds
Lacks-digits byte [] other all = tt
Lacks-digits byte (d ∷ ds) other all = (λ same. let digit = digit_from_value d all.0 in other (rw same at digit), Lacks-digits byte ds other all.1)

-- a decimal has no byte but digits
pub Lacks-decimal : (byte n : ℕ) → n < 2 ^ 64 → ¬ (IsInRange 48 57 byte) → Lacks byte (decimal n)
Lacks-decimal byte n small other = Lacks-digits byte (decimal n) other (decimal_is_IsNumeral n small).0.1

Lacks-hex_digits : (byte : ℕ) (ds : List ℕ) → is_hex_digit byte ≡ false → list_all is_hex_digit ds ≡ true → Lacks byte ds
Lacks-hex_digits byte [] other all = tt
Lacks-hex_digits byte (d ∷ ds) other all =
    let parts = and_parts (is_hex_digit d) (list_all is_hex_digit ds) all in
    (λ same. let digit = ap is_hex_digit same in cc, Lacks-hex_digits byte ds other parts.1)

-- HEX has no byte but digits and the dash
pub Lacks-hex : (byte : ℕ) (m : List ℕ) → IsBytes m → is_hex_digit byte ≡ false → byte ≢ 45 → Lacks byte (hex m)
Lacks-hex byte [] bytes other dash = (λ same. dash (sym same), tt)
Lacks-hex byte (b ∷ m) bytes other dash = Lacks-hex_digits byte (encode_lower (b ∷ m)) other (encode_lower-digits (b ∷ m) bytes)

pub IsField-decimal : (n : ℕ) → n < 2 ^ 64 → IsField (decimal n)
IsField-decimal n small = (Lacks-decimal 32 n small (λ digit. omega arith), Lacks-decimal 10 n small (λ digit. omega arith))

pub IsField-hex : (m : List ℕ) → IsBytes m → IsField (hex m)
IsField-hex m bytes = (Lacks-hex 32 m bytes refl (λ dash. omega arith), Lacks-hex 10 m bytes refl (λ dash. omega arith))
