-- Lists of numbers that rise.
use Rattle.std.proofs.Common.{◌≡◌, ◌≢◌, ◌↔◌, ℕ, zero, suc, ◌+◌, ◌<◌, ◌≤◌, ltb, Bool, true, false, IsTrue, List, [], ◌∷◌, length, map, get_or, slice_get, Some, Result, Ok, Err, IfSome, IfNone, Contains, refl, sym, ap, ◌∙◌, inl, inr, arith}
use Rattle.std.proofs.lemmas.Bool.{cases_lt}
use Rattle.std.proofs.lemmas.List.{get_or_default, length-map}
use Rattle.std.proofs.lemmas.Bool.Decides.{nat_tests}
use borrow.Author.Tests.{ltb-true}
use Rattle.std.proofs.lemmas.List.Kept.{AllPairs-from_increasing, AllPairs-filter}
use Rattle.std.specs.List.{IsAllAdjacentAnswer, AllPairs, filter}
use Rattle.std.specs.List.Sorted.{IsStrictlyIncreasing, IsSearchInRange, IsBinarySearchResult, IsNonDecreasingBy}
use Rattle.std.specs.Ordering.{nat_cmp, ordering_index}
use Rattle.std.specs.Result.{result_ok}
use Rattle.std.proofs.lemmas.Cmp.{ranked}
use Rattle.std.proofs.lemmas.List.Sorted.{IsNonDecreasingBy-from_default}

-- each number is below each later one
pub rises_far : (xs : List ℕ) → IsStrictlyIncreasing xs → (i j : ℕ) → i < j → j < length xs → get_or xs i 0 < get_or xs j 0
rises_far xs rising i j before within = AllPairs-from_increasing xs rising i j 0 before within

-- what follows the first number rises
pub rises-tail : (x : ℕ) (xs : List ℕ) → IsStrictlyIncreasing (x ∷ xs) → IsStrictlyIncreasing xs
rises-tail x xs rising k within = rises_far (x ∷ xs) rising (suc k) (suc (k + 1)) (omega arith) (omega arith)

-- what stands at a place
pub at_place : (xs : List ℕ) (place y d : ℕ) → slice_get xs place ≡ Some y → (place < length xs) × (get_or xs place d ≡ y)
at_place [] place y d found = absurd (cc)
at_place (x ∷ xs) zero y d found = (omega arith, cc)
at_place (x ∷ xs) (suc place) y d found = let rest = at_place xs place y d found in (omega (arith, rest.0), rest.1)

-- what stands at a place is contained
pub Contains-at_place : (xs : List ℕ) (place y : ℕ) → slice_get xs place ≡ Some y → Contains xs y
Contains-at_place xs place y found = let here = at_place xs place y y found in (place, here.0, here.1)

-- the first number is no later one
pub first_differs : (x y : ℕ) (xs : List ℕ) → IsStrictlyIncreasing (x ∷ xs) → (place : ℕ) → place < length xs → get_or xs place y ≡ y → x ≢ y
first_differs x y xs rising place within here same =
    omega (arith, rises_far (x ∷ xs) rising 0 (suc place) (omega arith) (omega arith), get_or_default xs place y 0 within)

-- what a look at each number and the next one says
pub rises-from_pairs : (xs : List ℕ) (r : Bool) → IsAllAdjacentAnswer (λ x y b. b ≡ ltb x y) xs r → IsTrue r ↔ IsStrictlyIncreasing xs
rises-from_pairs xs true all = (λ _ k within. ltb-true _ _ (sym (all k 0 within)), λ _. refl)
rises-from_pairs xs false (k, within, falls) = (λ no. absurd (cc), λ rising. absurd (grind (arith, nat_tests, falls 0, rising k within)))

module _ {X : Type 0} (key : X → ℕ) where
  -- the key of what stands at a place
  pub get_or-keys : (xs : List X) (i : ℕ) (d : X) (e : ℕ) → i < length xs → get_or (map key xs) i e ≡ key (get_or xs i d)
  get_or-keys [] i d e within = absurd (omega arith)
  get_or-keys (x ∷ xs) zero d e within = refl
  get_or-keys (x ∷ xs) (suc i) d e within = get_or-keys xs i d e (omega arith)

  pub slice_get-keys : (xs : List X) (i : ℕ) (d : X) → i < length xs → slice_get (map key xs) i ≡ Some (key (get_or xs i d))
  slice_get-keys [] i d within = absurd (omega arith)
  slice_get-keys (x ∷ xs) zero d within = refl
  slice_get-keys (x ∷ xs) (suc i) d within = slice_get-keys xs i d (omega arith)

  module _ (xs : List X) (rising : IsStrictlyIncreasing (map key xs)) (d : X) (x : ℕ) where
    -- the comparisons with a number rise along the list, as a binary search asks
    comparisons_rise : IsNonDecreasingBy (λ y. ordering_index (nat_cmp (key y) x)) xs
    comparisons_rise = IsNonDecreasingBy-from_default (λ y. ordering_index (nat_cmp (key y) x)) xs d (λ i j before within.
        let far : i < j → get_or (map key xs) i 0 < get_or (map key xs) j 0 = λ less. rises_far (map key xs) rising i j less (omega (arith, length-map xs key)) in
        let first = get_or-keys xs i d 0 (omega arith) in
        let second = get_or-keys xs j d 0 within in
        let keys_rise : key (get_or xs i d) ≤ key (get_or xs j d) = grind (arith, far, λ (same : i ≡ j). ap (λ k. key (get_or xs k d)) same) in
        grind (arith, nat_tests))

    -- a search by key ends at the number, or shows that it is not there
    pub searched : (r : Result ℕ ℕ) → IsSearchInRange r (length xs) → IsBinarySearchResult (λ y. nat_cmp (key y) x) xs r → IfSome (result_ok r) (λ place. slice_get (map key xs) place ≡ Some x) × IfNone (result_ok r) (¬ (Contains (map key xs) x))
    searched (Ok place) within here = (slice_get-keys xs place d within ∙ ap Some (ranked _ x _ (sym (here d))), tt)
    searched (Err place) within parted = (
      tt,
      λ found.
          let k = found.0 in
          let in_range : k < length xs = omega (arith, found.1, length-map xs key) in
          let same : key (get_or xs k d) ≡ x = sym (get_or-keys xs k d x in_range) ∙ found.2 in
          elim (cases_lt k place) [
            | inl before ↦ omega (arith, same, ranked _ x _ (sym ((parted comparisons_rise).0 k d (omega arith) before)))
            | inr after ↦ omega (arith, same, ranked _ x _ (sym ((parted comparisons_rise).1 k d after in_range)))
          ],
    )

  -- what passes a test rises too
  pub rises-filter : (xs : List X) (d : X) (p : X → Bool) → IsStrictlyIncreasing (map key xs) → IsStrictlyIncreasing (map key (filter p xs))
  rises-filter xs d p rising k within =
      let kept = filter p xs in
      let pairs : AllPairs (λ a b. key a < key b) kept = AllPairs-filter (λ a b. key a < key b) p xs (λ i j e before inside.
      let first = get_or-keys xs i e 0 (omega arith) in
      let second = get_or-keys xs j e 0 inside in
      omega (arith, first, second, rises_far (map key xs) rising i j before (omega (arith, length-map xs key)))) in
      let first = get_or-keys kept k d 0 (omega (arith, length-map kept key)) in
      let second = get_or-keys kept (k + 1) d 0 (omega (arith, length-map kept key)) in
      omega (arith, first, second, pairs k (k + 1) d (omega arith) (omega (arith, length-map kept key)))
