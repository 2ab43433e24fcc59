-- Puts in a row.
use Rattle.std.proofs.Common.{◌≡◌, ℕ, zero, suc, ◌+◌, ◌-◌, ◌<◌, ◌≤◌, List, [], ◌∷◌, ◌++◌, take, drop, refl, ap, subst, ◌∙◌, inl, inr, ◌⊎◌, arith}
use Rattle.std.specs.List.{Contains, range_with_len}
use Rattle.amo_outcomes.specs.declared.marks.Run.{Run}
use Rattle.amo_outcomes.specs.Marks.{IsIn, puts_in}
use Rattle.amo_world.proofs.Lists.{contains_nothing, contains_cases, contains_first, contains_other}

pub range_contains : (a n put : ℕ) → Contains (range_with_len a n) put → (a ≤ put) × (put < a + n)
range_contains a zero put c = absurd (contains_nothing put c)
range_contains a (suc n) put c = elim (contains_cases a (range_with_len (a + 1) n) put c) [
  | inl same ↦ (omega (arith, same), omega (arith, same))
  | inr other ↦ let there = range_contains (a + 1) n put other in (omega (arith, there.0), omega (arith, there.1))
]

-- a number is another one, or below it
same_or_less : (a put : ℕ) → a ≤ put → (a ≡ put) ⊎ (a + 1 ≤ put)
same_or_less zero zero low = inl refl
same_or_less zero (suc put) low = inr (omega arith)
same_or_less (suc a) zero low = absurd (omega (arith, low))
same_or_less (suc a) (suc put) low = elim (same_or_less a put (omega (arith, low))) [
  | inl same ↦ inl (ap suc same)
  | inr more ↦ inr (omega (arith, more))
]

pub contains_range : (a n put : ℕ) → a ≤ put → put < a + n → Contains (range_with_len a n) put
contains_range a zero put low high = absurd (omega (arith, low, high))
contains_range a (suc n) put low high = elim (same_or_less a put low) [
  | inl same ↦ subst (Contains (a ∷ range_with_len (a + 1) n)) same (contains_first a (range_with_len (a + 1) n))
  | inr more ↦ contains_other a (range_with_len (a + 1) n) put (contains_range (a + 1) n put more (omega (arith, high)))
]

-- a put stands in a run, or beside it
pub in_run : (run : Run) (put : ℕ) → Contains (puts_in run) put → IsIn run put
in_run run put c = let there = range_contains run.first (run.end - run.first) put c in
    (there.0, omega (arith, there.0, there.1))

pub of_run : (run : Run) (put : ℕ) → IsIn run put → Contains (puts_in run) put
of_run run put is = contains_range run.first (run.end - run.first) put is.0 (omega (arith, is.0, is.1))

-- one more at the end
pub range_push : (a n : ℕ) → range_with_len a n ++ (a + n) ∷ [] ≡ range_with_len a (n + 1)
range_push a zero = let same : a + 0 ≡ a = omega arith in ap (λ (m : ℕ). m ∷ []) same
range_push a (suc n) =
    let last : a + suc n ≡ (a + 1) + n = omega arith in
    let more : suc (n + 1) ≡ suc n + 1 = omega arith in
    ap (λ (m : ℕ). a ∷ (range_with_len (a + 1) n ++ m ∷ [])) last
    ∙ ap (λ (xs : List ℕ). a ∷ xs) (range_push (a + 1) n)
    ∙ ap (λ (m : ℕ). range_with_len a m) more

pub take_range : (k a n : ℕ) → k ≤ n → take k (range_with_len a n) ≡ range_with_len a k
take_range zero a n less = refl
take_range (suc k) a zero less = absurd (omega (arith, less))
take_range (suc k) a (suc n) less = ap (λ (xs : List ℕ). a ∷ xs) (take_range k (a + 1) n (omega (arith, less)))

pub drop_range : (k a n : ℕ) → k ≤ n → drop k (range_with_len a n) ≡ range_with_len (a + k) (n - k)
drop_range zero a n less = ap (λ (m : ℕ). range_with_len m n) (omega arith) ∙ ap (λ (m : ℕ). range_with_len (a + 0) m) (omega arith)
drop_range (suc k) a zero less = absurd (omega (arith, less))
drop_range (suc k) a (suc n) less =
    drop_range k (a + 1) n (omega (arith, less))
    ∙ ap (λ (m : ℕ). range_with_len m (n - k)) (omega arith)
    ∙ ap (λ (m : ℕ). range_with_len (a + suc k) m) (omega arith)
