-- What lists contain, and where.
use Rattle.std.proofs.Common.{◌≡◌, ℕ, zero, suc, Option, Some, List, [], ◌∷◌, ◌++◌, length, slice_get, set, ap, refl, inl, inr, ◌⊎◌, arith}
use Rattle.std.specs.Prelude.{unwrap_or}
use Rattle.std.specs.List.{Contains}
use Rattle.std.proofs.lemmas.List.Elements.{Contains-push, Contains-append_left, Contains-append_right, Contains-append_cases}

module _ {X : Type 0} where
  pub some_injective : (x y : X) → Some x ≡ Some y → x ≡ y
  some_injective x y e = ap (λ (o : Option X). unwrap_or o x) e

  pub contains_nothing : (x : X) → Contains [] x → ⊥
  contains_nothing x (k, short, is) = omega arith

  only : (x y : X) → Contains (x ∷ []) y → x ≡ y
  only x y (zero, short, is) = is
  only x y (suc k, short, is) = absurd (omega arith)

  -- the first element, or one of the others
  pub contains_cases : (x : X) (xs : List X) (y : X) → Contains (x ∷ xs) y → (x ≡ y) ⊎ Contains xs y
  contains_cases x xs y c = first_or_other (Contains-append_cases (x ∷ []) xs y c)
    where
      first_or_other : Contains (x ∷ []) y ⊎ Contains xs y → (x ≡ y) ⊎ Contains xs y
      first_or_other (inl here) = inl (only x y here)
      first_or_other (inr there) = inr there

  pub contains_first : (x : X) (xs : List X) → Contains (x ∷ xs) x
  contains_first x xs = Contains-append_left (x ∷ []) xs x (Contains-push [] x)

  pub contains_other : (x : X) (xs : List X) (y : X) → Contains xs y → Contains (x ∷ xs) y
  contains_other x xs y c = Contains-append_right (x ∷ []) xs y c

  -- what stands in a list stands there when more follows
  pub slice_get-longer : (xs ys : List X) (k : ℕ) (x : X) → slice_get xs k ≡ Some x → slice_get (xs ++ ys) k ≡ Some x
  slice_get-longer [] ys k x is = cc
  slice_get-longer (y ∷ xs) ys zero x is = is
  slice_get-longer (y ∷ xs) ys (suc k) x is = slice_get-longer xs ys k x is

  -- one more stands at the end
  pub slice_get-end : (xs : List X) (x : X) → slice_get (xs ++ x ∷ []) (length xs) ≡ Some x
  slice_get-end [] x = refl
  slice_get-end (y ∷ xs) x = slice_get-end xs x

  -- what stands in a list with one element exchanged
  pub set_cases : (xs : List X) (i : ℕ) (y : X) (k : ℕ) (x : X) → slice_get (set xs i y) k ≡ Some x → ((i ≡ k) × (y ≡ x)) ⊎ ((i ≡ k → ⊥) × (slice_get xs k ≡ Some x))
  set_cases [] i y k x is = absurd (nothing is)
    where
      nothing : slice_get (set [] i y) k ≡ Some x → ⊥
      nothing e = cc
  set_cases (z ∷ xs) zero y zero x is = inl (refl, some_injective y x is)
  set_cases (z ∷ xs) zero y (suc k) x is = inr ((λ e. omega arith), is)
  set_cases (z ∷ xs) (suc i) y zero x is = inr ((λ e. omega arith), is)
  set_cases (z ∷ xs) (suc i) y (suc k) x is = one_on (set_cases xs i y k x is)
    where
      one_on : ((i ≡ k) × (y ≡ x)) ⊎ ((i ≡ k → ⊥) × (slice_get xs k ≡ Some x)) → ((suc i ≡ suc k) × (y ≡ x)) ⊎ ((suc i ≡ suc k → ⊥) × (slice_get xs k ≡ Some x))
      one_on (inl (here, same)) = inl (ap (λ n. suc n) here, same)
      one_on (inr (apart, there)) = inr ((λ e. apart (omega (arith, e))), there)

  -- what stands in a list with one more element at its end
  pub push_cases : (xs : List X) (y : X) (k : ℕ) (x : X) → slice_get (xs ++ y ∷ []) k ≡ Some x → ((length xs ≡ k) × (y ≡ x)) ⊎ (slice_get xs k ≡ Some x)
  push_cases [] y zero x is = inl (refl, some_injective y x is)
  push_cases [] y (suc k) x is = inr is
  push_cases (z ∷ xs) y zero x is = inr is
  push_cases (z ∷ xs) y (suc k) x is = one_on (push_cases xs y k x is)
    where
      one_on : ((length xs ≡ k) × (y ≡ x)) ⊎ (slice_get xs k ≡ Some x) → ((suc (length xs) ≡ suc k) × (y ≡ x)) ⊎ (slice_get xs k ≡ Some x)
      one_on (inl (here, same)) = inl (ap (λ n. suc n) here, same)
      one_on (inr there) = inr there
