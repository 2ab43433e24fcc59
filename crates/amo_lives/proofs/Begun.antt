-- How a heading begins.
use Rattle.std.proofs.Common.{◌≡◌, ◌≢◌, ℕ, zero, suc, ◌-◌, ◌≤◌, ◌⊎◌, inl, inr, true, List, [], ◌∷◌, ◌++◌, length, length-append, replicate, refl, sym, ◌∙◌, ap, append_assoc, arith}
use Rattle.std.specs.List.{list_all}
use Rattle.std.proofs.lemmas.Bool.{and_parts}
use Rattle.std.proofs.lemmas.List.{append-nil, length-replicate}
use Rattle.std.proofs.lemmas.List.Folds.{list_all-append}
use Rattle.hex.specs.Hex.{lower_digits}
use Rattle.hex.proofs.HexLemmas.{length-encode_with}
use Rattle.amo_object.specs.declared.step.End.{End}
use Rattle.amo_object.specs.declared.step.End.TheVariants.{Sender, Receiver}
use Rattle.amo_text.specs.Hexadecimal.{hex, is_hex_digit}
use Rattle.amo_text.specs.Line.{Lacks, text_of}
use Rattle.amo_text.proofs.Cuts.{no_cut}
use Rattle.amo_text.proofs.HexDigits.{encode_lower-digits, spelt_by_pairs}
use Rattle.amo_text.proofs.Lines.{no_line, Lacks-text_of}
use Rattle.amo_lives.specs.Fault.{BeginsHeading, IsForeign, title}
use Rattle.amo_lives.specs.Life.{IsKey, heading_fields}
use Rattle.amo_lives.proofs.Fields.{IsLine-heading}

-- a heading is what stands in front of its key, and the key
pub titled : (side : End) (key : List ℕ) → text_of (heading_fields side key) ≡ title side ++ hex key
titled Sender key = refl
titled Receiver key = refl

-- of two beginnings of one text, one begins with the other
pub comparable : (a b x y : List ℕ) → a ++ x ≡ b ++ y → ((z : List ℕ) × (a ≡ b ++ z)) ⊎ ((z : List ℕ) × (b ≡ a ++ z))
comparable [] b x y e = inr (b, refl)
comparable (c ∷ a) [] x y e = inl (c ∷ a, refl)
comparable (c ∷ a) (d ∷ b) x y e =
    let head : c ≡ d = cc in
    let tail : a ++ x ≡ b ++ y = cc in
    elim (comparable a b x y tail) [
      | inl p ↦ inl (p.0, (let whole : c ∷ a ≡ d ∷ (b ++ p.0) = let rest = p.1 in cc in whole))
      | inr p ↦ inr (p.0, (let whole : d ∷ b ≡ c ∷ (a ++ p.0) = let rest = p.1 in cc in whole))
    ]

cancel : (a x y : List ℕ) → a ++ x ≡ a ++ y → x ≡ y
cancel [] x y e = e
cancel (c ∷ a) x y e = let tail : a ++ x ≡ a ++ y = cc in cancel a x y tail

zeros_are_digits : (n : ℕ) → list_all is_hex_digit (replicate n 48) ≡ true
zeros_are_digits zero = refl
zeros_are_digits (suc n) = zeros_are_digits n

-- a key is spelt by 32 digits
hex_key : (key : List ℕ) → IsKey key → (length (hex key) ≡ 32) × (list_all is_hex_digit (hex key) ≡ true)
hex_key [] known = absurd (omega (arith, known.0))
hex_key (b ∷ key) known = let long = length-encode_with lower_digits (b ∷ key) in (omega (arith, long, known.0), encode_lower-digits (b ∷ key) known.1)

-- up to 32 digits behind the title begin a heading
pub digits_begin : (side : End) (digits : List ℕ) → length digits ≤ 32 → list_all is_hex_digit digits ≡ true → BeginsHeading side (title side ++ digits)
digits_begin side digits few all =
    let zeros = replicate (32 - length digits) 48 in
    let long : length (digits ++ zeros) ≡ 32 = let both = length-append digits zeros in let rest = length-replicate {A = ℕ} (32 - length digits) 48 in omega (arith, both, rest) in
    let are : list_all is_hex_digit (digits ++ zeros) ≡ true = rw (list_all-append is_hex_digit digits zeros, all) (zeros_are_digits (32 - length digits)) in
    let spelt = spelt_by_pairs (digits ++ zeros) (record { some = omega (arith, long); even = rw long refl; digits = are }) in
    record {
      key = spelt.0;
      more = zeros;
      key_is = (sym spelt.3 ∙ rw long refl, spelt.1);
      parts = titled side spelt.0 ∙ ap (λ (t : List ℕ). title side ++ t) (sym spelt.2) ∙ sym (append_assoc (title side) digits zeros);
    }

pub digits_only : (side : End) (digits : List ℕ) → BeginsHeading side (title side ++ digits) → (length digits ≤ 32) × (list_all is_hex_digit digits ≡ true)
digits_only side digits begun =
    let whole = cancel (title side) (hex begun.key) (digits ++ begun.more) (sym (titled side begun.key) ∙ begun.parts ∙ append_assoc (title side) digits begun.more) in
    let known = hex_key begun.key begun.key_is in
    let long = ap length whole ∙ length-append digits begun.more in
    let all = sym (list_all-append is_hex_digit digits begun.more) ∙ ap (list_all is_hex_digit) (sym whole) ∙ known.1 in
    (omega (arith, long, known.0), (and_parts _ _ all).0)

-- a beginning of the title begins one
pub title_begins : (side : End) (text rest : List ℕ) → title side ≡ text ++ rest → BeginsHeading side text
title_begins side text rest cut =
    let begun = digits_begin side [] (omega arith) refl in
    record {
      key = begun.key;
      more = rest ++ begun.more;
      key_is = begun.key_is;
      parts = begun.parts ∙ ap (λ (t : List ℕ). t ++ begun.more) (append-nil (title side) ∙ cut) ∙ append_assoc text rest begun.more;
    }

pub title_only : (side : End) (text : List ℕ) → ((rest : List ℕ) → text ≢ title side ++ rest) → BeginsHeading side text → (rest : List ℕ) × (title side ≡ text ++ rest)
title_only side text none begun = elim (comparable (title side) text (hex begun.key) begun.more (sym (titled side begun.key) ∙ begun.parts)) [ inl p ↦ p | inr p ↦ absurd (none p.0 p.1) ]

-- a heading has no line's end before its own
pub no_end : (side : End) (key text body more : List ℕ) → IsKey key → text_of (heading_fields side key) ≢ (text ++ 10 ∷ body) ++ more
no_end side key text body more known e =
    no_cut 10 (text_of (heading_fields side key)) text (body ++ more) (Lacks-text_of (heading_fields side key) (IsLine-heading side key known).1) (e ∙ append_assoc text (10 ∷ body) more)

-- bytes without a line's end that begin no heading of this side
pub foreign_without_line : (side : End) (bytes : List ℕ) → Lacks 10 bytes → ¬ (BeginsHeading side bytes) → IsForeign side bytes
foreign_without_line side bytes lacks none = record { none = λ of key more known e. no_line bytes (heading_fields of key) more lacks e; not_begun = none }
