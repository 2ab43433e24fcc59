-- The part of some bytes that a piece is to get.
use Rattle.std.proofs.Common.{◌≡◌, ◌≢◌, ◌⊎◌, inl, inr, Bool, false, ◌==◌, ℕ, suc, ◌+◌, ◌-◌, ◌<◌, ◌≤◌, List, [], ◌∷◌, ◌++◌, length, take, get_or, refl, sym, ap, ◌∙◌, arith, length-append, append_assoc, codes}
use Rattle.std.proofs.lemmas.Bool.{cases_lt, true≢false}
use Rattle.std.proofs.lemmas.List.{get_or-take, length-take-le, take_all, take_more}
use Rattle.amo_journal.specs.declared.version.Version.{Version}
use Rattle.amo_journal.specs.declared.version.Version.TheVariants.{One, Two}
use Rattle.amo_journal.specs.Version.{heading}
use Rattle.amo_pieces.specs.Journal.{IsWhole}

at_seam : (front more : List ℕ) → get_or (front ++ 10 ∷ more) (length front) 0 ≡ 10
at_seam [] more = refl
at_seam (x ∷ front) more = at_seam front more

some_length : (more : List ℕ) → more ≢ [] → 1 ≤ length more
some_length [] some = absurd (some refl)
some_length (x ∷ more) some = omega arith

-- no line ends from the first place on but at the end of the part: so each that ends in it is in front of that place
pub within_part : (bytes : List ℕ) (size limit first count : ℕ) → first ≡ limit - size - 1 → count ≤ length bytes → ((k : ℕ) → first ≤ k → k + 1 < count → get_or bytes k 0 ≢ 10)
    → (front more : List ℕ) → take count bytes ≡ front ++ 10 ∷ more → more ≢ [] → size + length front + 1 < limit
within_part bytes size limit first count is fits none front more e some =
    let first_long = length-take-le count bytes fits in let all = ap length e ∙ length-append front (10 ∷ more) in
    let long : count ≡ length front + (1 + length more) = omega (arith, first_long, all) in
    let left = some_length more some in
    let here : get_or bytes (length front) 0 ≡ 10 =
    sym (get_or-take count bytes (length front) 0 (omega (arith, long))) ∙ (ap (λ (l : List ℕ). get_or l (length front) 0) e ∙ at_seam front more) in
    by_place (cases_lt (length front) first) long left here
  where
    by_place : (length front < first) ⊎ (first ≤ length front) → count ≡ length front + (1 + length more) → 1 ≤ length more → get_or bytes (length front) 0 ≡ 10 → size + length front + 1 < limit
    by_place (inl before) long left here = omega (arith, before, is)
    by_place (inr behind) long left here = absurd (none (length front) behind (omega (arith, long, left)) here)

-- the heading of a version is a whole line, or nothing
pub heading_whole : (version : Version) → IsWhole (heading version)
heading_whole One = inl refl
heading_whole Two = inr (codes "amo 2", refl)

behind : (xs ys : List ℕ) (i : ℕ) → get_or (xs ++ ys) (length xs + i) 0 ≡ get_or ys i 0
behind [] ys i = ap (λ (n : ℕ). get_or ys n 0) (let same : 0 + i ≡ i = omega arith in same)
behind (x ∷ xs) ys i = ap (λ (n : ℕ). get_or (x ∷ (xs ++ ys)) n 0) (let same : suc (length xs) + i ≡ suc (length xs + i) = omega arith in same) ∙ behind xs ys i

last_split : (bytes : List ℕ) → 1 ≤ length bytes → bytes ≡ take (length bytes - 1) bytes ++ get_or bytes (length bytes - 1) 0 ∷ []
last_split bytes some =
    let all : length bytes - 1 + 1 ≡ length bytes = omega (arith, some) in
    sym (take_all (length bytes - 1 + 1) bytes (omega (arith, all))) ∙ take_more bytes (length bytes - 1) 0 (omega (arith, some))

-- where a text ends in a byte behind others, it is whole exactly where that is a line's end
pub last_tells : (text bytes : List ℕ) → 1 ≤ length bytes → (get_or bytes (length bytes - 1) 0 ≡ 10 → IsWhole (text ++ bytes)) × (IsWhole (text ++ bytes) → get_or bytes (length bytes - 1) 0 ≡ 10)
last_tells text bytes some = (there, back)
  where
    there : get_or bytes (length bytes - 1) 0 ≡ 10 → IsWhole (text ++ bytes)
    there is = inr (
      text ++ take (length bytes - 1) bytes,
      ap (λ (l : List ℕ). text ++ l) (last_split bytes some ∙ ap (λ (b : ℕ). take (length bytes - 1) bytes ++ b ∷ []) is) ∙ sym (append_assoc text (take (length bytes - 1) bytes) (10 ∷ [])),
    )

    back : IsWhole (text ++ bytes) → get_or bytes (length bytes - 1) 0 ≡ 10
    back (inl none) = let long = sym (length-append text bytes) ∙ ap length none in absurd (let no : ⊥ = omega (arith, long, some) in no)
    back (inr (front, e)) =
        let long = sym (length-append text bytes) ∙ (ap length e ∙ length-append front (10 ∷ [])) in
        let place : length text + (length bytes - 1) ≡ length front = omega (arith, long, some) in
        sym (behind text bytes (length bytes - 1)) ∙ (ap (λ (n : ℕ). get_or (text ++ bytes) n 0) place ∙ (ap (λ (l : List ℕ). get_or l (length front) 0) e ∙ at_seam front []))

pub some_bytes : (bytes : List ℕ) (empty : Bool) → empty ≡ (length bytes == 0) → empty ≡ false → 1 ≤ length bytes
some_bytes [] empty is not_so = absurd (true≢false (sym is ∙ not_so))
some_bytes (x ∷ bytes) empty is not_so = omega arith
