-- The fields of the heading and of a life's line: each is a field, and no two values have the same.
use Rattle.std.proofs.Common.{◌≡◌, ◌≢◌, ℕ, zero, suc, ◌/◌, ◌%◌, ◌<◌, ◌^◌, Bool, true, false, Option, Some, None, ltb, List, [], ◌∷◌, length, codes, refl, sym, ◌∙◌, ap, arith}
use Rattle.std.specs.Prelude.{IfSome, slice_index}
use Rattle.std.specs.Fmt.{decimal}
use Rattle.std.specs.Int.{from_be_bytes, to_be_bytes, w32}
use Rattle.std.proofs.lemmas.Bool.{agree_below_at, ltb-true}
use Rattle.std.proofs.lemmas.Fmt.{decimal_injective}
use Rattle.std.proofs.lemmas.Nat.{from_be_bytes-to_be_bytes_4}
use Rattle.std.proofs.lemmas.Bool.Decides.{nat_tests}
use Rattle.hex.specs.Hex.{IsBytes}
use Rattle.amo_object.specs.declared.step.End.{End}
use Rattle.amo_text.specs.Hexadecimal.{hex}
use Rattle.amo_text.specs.Line.{IsField, IsLine}
use Rattle.amo_text.specs.Side.{letter_of}
use Rattle.amo_text.proofs.Cuts.{IsField-decimal, IsField-hex}
use Rattle.amo_text.proofs.Fields.{letters, IsField-letter_of, letter_of-injective}
use Rattle.amo_text.proofs.HexDigits.{hex-injective, texts_differ}
use Rattle.amo_lives.specs.declared.life.Life.{Life}
use Rattle.amo_lives.specs.Boot.{IsBootId, fits, form}
use Rattle.amo_lives.specs.Life.{IsKey, InRange, boot_field, fields_of, heading_fields, sync_field, tag_field}

-- a tag is four bytes
IsBytes-nil : IsBytes []
IsBytes-nil i = omega arith

IsBytes-cons : (b : ℕ) (m : List ℕ) → b < 256 → IsBytes m → IsBytes (b ∷ m)
IsBytes-cons b m byte bytes zero = byte
IsBytes-cons b m byte bytes (suc i) = bytes i

four_bytes : (a b c d : ℕ) → a < 256 → b < 256 → c < 256 → d < 256 → IsBytes (a ∷ b ∷ c ∷ d ∷ [])
four_bytes a b c d p q r s = IsBytes-cons a (b ∷ c ∷ d ∷ []) p (IsBytes-cons b (c ∷ d ∷ []) q (IsBytes-cons c (d ∷ []) r (IsBytes-cons d [] s IsBytes-nil)))

pub tag_bytes : (tag : ℕ) → IsBytes (to_be_bytes w32 tag)
tag_bytes tag = four_bytes (tag / 16777216 % 256) (tag / 65536 % 256) (tag / 256 % 256) (tag % 256) (omega arith) (omega arith) (omega arith) (omega arith)

pub tag_field-injective : (a b : ℕ) → a < 2 ^ 32 → b < 2 ^ 32 → tag_field a ≡ tag_field b → a ≡ b
tag_field-injective a b small small' e =
    let bytes = hex-injective (to_be_bytes w32 a) (to_be_bytes w32 b) (tag_bytes a) (tag_bytes b) e in
    sym (from_be_bytes-to_be_bytes_4 a small) ∙ ap (from_be_bytes w32) bytes ∙ from_be_bytes-to_be_bytes_4 b small'

pub IsField-tag : (tag : ℕ) → IsField (tag_field tag)
IsField-tag tag = IsField-hex (to_be_bytes w32 tag) (tag_bytes tag)

-- an id of a machine's start has no space and no line's end
fits_above : (of byte : ℕ) → 32 < of → fits of byte ≡ true → 32 < byte
fits_above of byte above fit = grind (arith, nat_tests)

form_above : (k : ℕ) → k < 36 → 32 < slice_index form k
form_above k small = ltb-true 32 (slice_index form k) (agree_below_at (λ k. ltb 32 (slice_index form k)) (λ k. true) 36 k refl small)

field_above : (xs : List ℕ) → ((k : ℕ) → k < length xs → 32 < slice_index xs k) → IsField xs
field_above [] above = (tt, tt)
field_above (x ∷ xs) above =
    let here : 32 < x = above 0 (omega arith) in
    let rest = field_above xs (λ k small. above (suc k) (omega arith)) in
    ((λ e. omega arith, rest.0), (λ e. omega arith, rest.1))

IsField-boot_id : (text : List ℕ) → IsBootId text → IsField text
IsField-boot_id text known = field_above text (λ k small. let within : k < 36 = omega (arith, known.0) in fits_above (slice_index form k) (slice_index text k) (form_above k within) (known.1 k within))

pub IsField-boot : (boot : Option (List ℕ)) → IfSome boot IsBootId → IsField (boot_field boot)
IsField-boot None known = letters (codes "unknown") refl
IsField-boot (Some id) known = IsField-boot_id id known

pub unknown_is_no_id : (text : List ℕ) → IsBootId text → text ≢ codes "unknown"
unknown_is_no_id text known e = let short = ap length e in omega (arith, known.0, short)

pub boot_field-injective : (a b : Option (List ℕ)) → IfSome a IsBootId → IfSome b IsBootId → boot_field a ≡ boot_field b → a ≡ b
boot_field-injective None None known known' e = refl
boot_field-injective None (Some id) known known' e = absurd (unknown_is_no_id id known' (sym e))
boot_field-injective (Some id) None known known' e = absurd (unknown_is_no_id id known e)
boot_field-injective (Some id) (Some id') known known' e = ap Some e

IsField-sync : (sync : Bool) → IsField (sync_field sync)
IsField-sync true = letters (codes "sync") refl
IsField-sync false = letters (codes "nosync") refl

pub sync_field-injective : (a b : Bool) → sync_field a ≡ sync_field b → a ≡ b
sync_field-injective true true e = refl
sync_field-injective true false e = absurd (texts_differ (codes "sync") (codes "nosync") refl e)
sync_field-injective false true e = absurd (texts_differ (codes "nosync") (codes "sync") refl e)
sync_field-injective false false e = refl

-- the fields of a life are a line, and no two lives have the same
pub IsLine-fields_of : (life : Life) → InRange life → IsLine (fields_of life)
IsLine-fields_of life known =
    ((λ none. cc), (IsField-tag life.tag, (IsField-decimal life.first_line known.first_line, (IsField-boot life.boot known.boot, (IsField-sync life.sync, tt)))))

same_life : (t t' f f' : ℕ) (b b' : Option (List ℕ)) (s s' : Bool) → t ≡ t' → f ≡ f' → b ≡ b' → s ≡ s'
    → (let a : Life = record { tag = t; first_line = f; boot = b; sync = s } in a) ≡ record { tag = t'; first_line = f'; boot = b'; sync = s' }
same_life t t' f f' b b' s s' e1 e2 e3 e4 = rw (e1, e2, e3, e4) refl

pub one_life : (a b : Life) → InRange a → InRange b → fields_of a ≡ fields_of b → a ≡ b
one_life a b known known' e =
    let tags : tag_field a.tag ≡ tag_field b.tag = cc in
    let lines : decimal a.first_line ≡ decimal b.first_line = cc in
    let boots : boot_field a.boot ≡ boot_field b.boot = cc in
    let syncs : sync_field a.sync ≡ sync_field b.sync = cc in
    same_life a.tag b.tag a.first_line b.first_line a.boot b.boot a.sync b.sync
    (tag_field-injective a.tag b.tag known.tag known'.tag tags) (decimal_injective a.first_line b.first_line known.first_line known'.first_line lines)
    (boot_field-injective a.boot b.boot known.boot known'.boot boots) (sync_field-injective a.sync b.sync syncs)

-- so are those of a heading
pub IsLine-heading : (side : End) (key : List ℕ) → IsKey key → IsLine (heading_fields side key)
IsLine-heading side key known =
    ((λ none. cc), (letters (codes "amo") refl, (letters (codes "lives") refl, (letters (codes "1") refl, (IsField-letter_of side, (IsField-hex key known.1, tt))))))

pub one_heading : (s t : End) (k l : List ℕ) → IsKey k → IsKey l → heading_fields s k ≡ heading_fields t l → (s ≡ t) × (k ≡ l)
one_heading s t k l known known' e =
    let letter : letter_of s ≡ letter_of t = cc in
    let keys : hex k ≡ hex l = cc in
    (letter_of-injective s t letter, hex-injective k l known.1 known'.1 keys)
