-- Subsequences, and lists seen from their end.
use Rattle.std.proofs.Common.{◌≡◌, ℕ, zero, suc, ◌≤◌, Bool, true, false, Some, None, List, [], ◌∷◌, ◌++◌, length, take, refl, ◌∙◌, inl, inr, ◌⊎◌, arith}
use Rattle.std.proofs.lemmas.List.{length-append}
use Rattle.amo_object.specs.Delivery.{IsSubsequence, empty, keep, leave_out}
use Rattle.amo_resolve.specs.Plan.{last, Leaves}

module _ {X : Type 0} where
  pub subsequence-nil : (ys : List X) → IsSubsequence [] ys
  subsequence-nil [] = empty
  subsequence-nil (y ∷ ys) = leave_out (subsequence-nil ys)

  pub subsequence-refl : (xs : List X) → IsSubsequence xs xs
  subsequence-refl [] = empty
  subsequence-refl (x ∷ xs) = keep (subsequence-refl xs)

  continued : {ys zs : List X} → IsSubsequence ys zs → (xs : List X) → IsSubsequence xs ys → IsSubsequence xs zs
  continued empty xs first = first
  continued (leave_out then) xs first = leave_out (continued then xs first)
  continued (keep then) _ (keep {xs = xs} first) = keep (continued then xs first)
  continued (keep then) xs (leave_out first) = leave_out (continued then xs first)

  pub subsequence-trans : {xs ys zs : List X} → IsSubsequence xs ys → IsSubsequence ys zs → IsSubsequence xs zs
  subsequence-trans first then = continued then _ first

  -- a part is no longer than the whole
  pub length-subsequence : {xs ys : List X} → IsSubsequence xs ys → length xs ≤ length ys
  length-subsequence empty = omega arith
  length-subsequence (keep sub) = omega (arith, length-subsequence sub)
  length-subsequence (leave_out sub) = omega (arith, length-subsequence sub)

  -- the same elements before both
  pub subsequence-before : (front : List X) {xs ys : List X} → IsSubsequence xs ys → IsSubsequence (front ++ xs) (front ++ ys)
  subsequence-before [] sub = sub
  subsequence-before (x ∷ front) sub = keep (subsequence-before front sub)

  -- and after both
  pub subsequence-after : {xs ys : List X} (more : List X) → IsSubsequence xs ys → IsSubsequence (xs ++ more) (ys ++ more)
  subsequence-after more empty = subsequence-refl more
  subsequence-after more (keep sub) = keep (subsequence-after more sub)
  subsequence-after more (leave_out sub) = leave_out (subsequence-after more sub)

  -- more after the second
  pub subsequence-longer : {xs ys : List X} (more : List X) → IsSubsequence xs ys → IsSubsequence xs (ys ++ more)
  subsequence-longer more empty = subsequence-nil more
  subsequence-longer more (keep sub) = keep (subsequence-longer more sub)
  subsequence-longer more (leave_out sub) = leave_out (subsequence-longer more sub)

  pub subsequence-take : (n : ℕ) (xs : List X) → IsSubsequence (take n xs) xs
  subsequence-take zero xs = subsequence-nil xs
  subsequence-take (suc n) [] = empty
  subsequence-take (suc n) (x ∷ xs) = keep (subsequence-take n xs)

  -- nothing but nothing is a part of nothing
  pub subsequence-of_nil : (xs : List X) → IsSubsequence xs [] → xs ≡ []
  subsequence-of_nil _ empty = refl

  -- a list seen from its end
  pub data FromEnd : List X → Type 0 where
    nothing : FromEnd []
    pushed : (xs : List X) (x : X) → FromEnd (xs ++ x ∷ [])

  pub from_end : (xs : List X) → FromEnd xs
  from_end [] = nothing
  from_end (x ∷ xs) = by (from_end xs)
    where
      by : {ys : List X} → FromEnd ys → FromEnd (x ∷ ys)
      by nothing = pushed [] x
      by (pushed ys y) = pushed (x ∷ ys) y

  pub last-push : (xs : List X) (x : X) → last (xs ++ x ∷ []) ≡ Some x
  last-push [] x = refl
  last-push (y ∷ []) x = refl
  last-push (y ∷ z ∷ xs) x = last-push (z ∷ xs) x

  -- the last element of a part of a list: it is the last of the list, or the part is one of the list without it
  pub subsequence-last : (xs : List X) (x : X) (ys : List X) (y : X) → IsSubsequence (xs ++ x ∷ []) (ys ++ y ∷ [])
      → ((x ≡ y) × IsSubsequence xs ys) ⊎ IsSubsequence (xs ++ x ∷ []) ys
  subsequence-last [] x [] y (keep sub) = inl (refl, empty)
  subsequence-last [] x [] y (leave_out sub) = inr sub
  subsequence-last [] x (z ∷ ys) y (keep sub) = inr (keep (subsequence-nil ys))
  subsequence-last [] x (z ∷ ys) y (leave_out sub) = elim (subsequence-last [] x ys y sub) [
    | inl same ↦ inl (same.0, leave_out same.1)
    | inr before ↦ inr (leave_out before)
  ]
  subsequence-last (w ∷ xs) x [] y sub = absurd (omega (arith, length-subsequence sub, length-append xs (x ∷ [])))
  subsequence-last (w ∷ xs) x (z ∷ ys) y (keep sub) = elim (subsequence-last xs x ys y sub) [
    | inl same ↦ inl (same.0, keep same.1)
    | inr before ↦ inr (keep before)
  ]
  subsequence-last (w ∷ xs) x (z ∷ ys) y (leave_out sub) = elim (subsequence-last (w ∷ xs) x ys y sub) [
    | inl same ↦ inl (same.0, leave_out same.1)
    | inr before ↦ inr (leave_out before)
  ]

  -- what is left of beginnings, of which the second is no longer
  subsequence-dropped : (front : List X) (xs : List X) → IsSubsequence xs (front ++ xs)
  subsequence-dropped [] xs = subsequence-refl xs
  subsequence-dropped (x ∷ front) xs = leave_out (subsequence-dropped front xs)

  pub subsequence-rest : (front other xs ys : List X) → length other ≤ length front → IsSubsequence (front ++ xs) (other ++ ys) → IsSubsequence xs ys
  subsequence-rest front [] xs ys most sub = subsequence-trans (subsequence-dropped front xs) sub
  subsequence-rest [] (y ∷ other) xs ys most sub = absurd (omega (arith, most))
  subsequence-rest (x ∷ front) (y ∷ other) xs ys most (keep sub) = subsequence-rest front other xs ys (omega (arith, most)) sub
  subsequence-rest (x ∷ front) (y ∷ other) xs ys most (leave_out sub) = subsequence-rest (x ∷ front) other xs ys (omega (arith, most)) sub

-- losses that leave nothing out
pub leaves-refl : (mode : Bool) (xs : List (List ℕ)) → Leaves mode xs xs
leaves-refl false xs = subsequence-refl xs
leaves-refl true xs = (subsequence-refl xs, refl)

pub leaves-part : (mode : Bool) (xs ys : List (List ℕ)) → Leaves mode xs ys → IsSubsequence xs ys
leaves-part false xs ys leaves = leaves
leaves-part true xs ys leaves = leaves.0

pub leaves-trans : (mode : Bool) (xs ys zs : List (List ℕ)) → Leaves mode xs ys → IsSubsequence ys zs → (mode ≡ true → last ys ≡ last zs) → Leaves mode xs zs
leaves-trans false xs ys zs first then alike = subsequence-trans first then
leaves-trans true xs ys zs first then alike = (subsequence-trans first.0 then, first.1 ∙ alike refl)

-- one more message before both
pub last-cons : {X : Type 0} (m : X) (xs ys : List X) → last xs ≡ last ys → last (m ∷ xs) ≡ last (m ∷ ys)
last-cons m [] [] same = refl
last-cons m [] (y ∷ ys) same = absurd (none ys y same)
  where
    none : {X : Type 0} (ys : List X) (y : X) → None ≡ last (y ∷ ys) → ⊥
    none [] y same = cc
    none (z ∷ ys) y same = none ys z same
last-cons m (x ∷ xs) [] same = absurd (some xs x same)
  where
    some : {X : Type 0} (xs : List X) (x : X) → last (x ∷ xs) ≡ None → ⊥
    some [] x same = cc
    some (z ∷ xs) x same = some xs z same
last-cons m (x ∷ xs) (y ∷ ys) same = same

pub leaves-cons : (mode : Bool) (m : List ℕ) (xs ys : List (List ℕ)) → Leaves mode xs ys → Leaves mode (m ∷ xs) (m ∷ ys)
leaves-cons false m xs ys leaves = keep leaves
leaves-cons true m xs ys leaves = (keep leaves.0, last-cons m xs ys leaves.1)
