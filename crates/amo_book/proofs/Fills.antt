-- Lists that are filled one by one.
use Rattle.std.proofs.Common.{◌≡◌, ℕ, zero, suc, ◌+◌, ◌<◌, List, [], ◌∷◌, ◌++◌, length, get_or, map, replicate, inl, inr, ◌⊎◌, ⊎_elim, slice_get, Some, refl, sym, ap, ◌∙◌, subst, arith, length-append}
use Rattle.std.proofs.lemmas.Option.{same_Some, slice_get_within}
use mathlib.Core.Option.{some, some-injective, some-ne-none}
use mathlib.Core.Logic.{dite}
use native.Mathlib.Decide.{ℕ_discrete}
use lib.ListN.{get_elem?}
use Rattle.atomic_table.specs.Seated.{TableId}
use Rattle.amo_object.specs.declared.step.End.{End}
use Rattle.amo_world.proofs.Lists.{slice_get-end, slice_get-longer}
use Rattle.amo_book.specs.Book.{Each, Lists, first_charge}
use Rattle.amo_book.specs.Charge.{ChargeState}
use Rattle.amo_book.specs.Rule.{Slot, Spaced, stride, slot_of}

module _ {A : Type 0} where
  get-push-here : (l : List A) (x : A) → slice_get (l ++ x ∷ []) (length l) ≡ Some x
  get-push-here [] x = refl
  get-push-here (y ∷ ys) x = get-push-here ys x

  get-push-before : (l : List A) (x : A) (k : ℕ) → k < length l → slice_get (l ++ x ∷ []) k ≡ slice_get l k
  get-push-before [] x k h = absurd (omega arith)
  get-push-before (y ∷ ys) x zero h = refl
  get-push-before (y ∷ ys) x (suc k) h = get-push-before ys x k (omega arith)

  -- an entry of a longer list is one of the list, or the last
  pub get-push : (l : List A) (y x : A) (j : ℕ) → slice_get (l ++ y ∷ []) j ≡ Some x → (slice_get l j ≡ Some x) ⊎ ((j ≡ length l) × (y ≡ x))
  get-push [] y x zero e = inr (refl, cc)
  get-push [] y x (suc j) e = cc
  get-push (z ∷ zs) y x zero e = inl e
  get-push (z ∷ zs) y x (suc j) e = ⊎_elim (λ h. inl h) (λ (t : (j ≡ length zs) × (y ≡ x)). inr (ap suc t.0, t.1)) (get-push zs y x j e)

  pub lists-none : (f : ℕ → A) → Lists f 0 []
  lists-none f = (refl, λ k h. absurd (omega arith))

  pub lists-more : (f : ℕ → A) (n : ℕ) (l : List A) (x : A) → x ≡ f n → Lists f n l → Lists f (n + 1) (l ++ x ∷ [])
  lists-more f n l x is h = let long = h.0 in (
    omega (arith, length-append l (x ∷ [])),
    λ k lt. dite (ℕ_discrete k n)
        (λ e. ap (slice_get (l ++ x ∷ [])) (e ∙ sym long) ∙ (get-push-here l x ∙ ap Some (is ∙ ap f (sym e))))
        (λ ne. get-push-before l x k (omega arith) ∙ h.1 k (omega arith)),
  )

  pub to_elem : (l : List A) (k : ℕ) (x : A) → slice_get l k ≡ Some x → get_elem? l k ≡ some x
  to_elem [] k x e = cc
  to_elem (y ∷ ys) zero x e = ap some (cc)
  to_elem (y ∷ ys) (suc k) x e = to_elem ys k x e

  pub each-from : (P : A → Type 0) (l : List A) → ((k : ℕ) (x : A) → slice_get l k ≡ Some x → P x) → Each P l
  each-from P [] h = tt
  each-from P (y ∷ ys) h = (h 0 y refl, each-from P ys (λ k x e. h (suc k) x e))

  pub lists-each : (P : A → Type 0) (f : ℕ → A) (n : ℕ) (l : List A) → ((k : ℕ) → P (f k)) → Lists f n l → Each P l
  lists-each P f n l all h = each-from P l
      (λ k x e. let lt = slice_get_within l k x e in let long = h.0 in let same = h.1 k (omega arith) in let is : f k ≡ x = cc in subst P is (all k))

-- one more side has its charge
pub charges-more : (id : TableId) (sides : List (End × ℕ)) (n : ℕ) (l : List ChargeState) (x : ChargeState) (side : End) (stream : ℕ)
    → slice_get sides n ≡ Some (side, stream) → x ≡ first_charge id n side stream → length l ≡ n
    → ((k : ℕ) (s : End) (t : ℕ) → k < n → slice_get sides k ≡ Some (s, t) → slice_get l k ≡ Some (first_charge id k s t))
    → (k : ℕ) (s : End) (t : ℕ) → k < n + 1 → slice_get sides k ≡ Some (s, t) → slice_get (l ++ x ∷ []) k ≡ Some (first_charge id k s t)
charges-more id sides n l x side stream here is long before k s t lt there = dite (ℕ_discrete k n)
    (λ e. let same : (side, stream) ≡ (s, t) = same_Some _ _ (sym here ∙ (ap (slice_get sides) (sym e) ∙ there)) in
    ap (slice_get (l ++ x ∷ [])) (e ∙ sym long) ∙ (get-push-here l x ∙ ap Some (is ∙ (λ i. first_charge id (sym e i) (same i).0 (same i).1))))
    (λ ne. get-push-before l x k (omega arith) ∙ before k s t (omega arith) there)

pub spaced-none : (f : ℕ → Slot) → Spaced f 0 []
spaced-none f = (refl, λ k h. absurd (omega arith))

-- one more slot is filled, and what stands between it and the next one follows
pub spaced-more : (f : ℕ → Slot) (n : ℕ) (l m : List Slot) (x : Slot) → x ≡ f n → Spaced f n l → length m + 1 ≡ length (l ++ x ∷ []) + stride
    → ((k : ℕ) (y : Slot) → slice_get (l ++ x ∷ []) k ≡ Some y → slice_get m k ≡ Some y) → Spaced f (n + 1) m
spaced-more f n l m x is h wide kept = let long = h.0 in (
  omega (arith, wide, length-append l (x ∷ [])),
  λ k lt. kept (slot_of k) (f k) (dite (ℕ_discrete k n)
      (λ e. ap (slice_get (l ++ x ∷ [])) (ap slot_of e ∙ sym long) ∙ (slice_get-end l x ∙ ap Some (is ∙ ap f (sym e))))
      (λ ne. slice_get-longer l (x ∷ []) (slot_of k) (f k) (h.1 k (omega arith)))),
)

module _ {A B : Type 0} where
  pub is_map : (f : B → A) (d : B) (l : List B) (xs : List A) → length xs ≡ length l
      → ((j : ℕ) (x : A) → slice_get xs j ≡ Some x → x ≡ f (get_or l j d)) → xs ≡ map f l
  is_map f d [] [] n h = refl
  is_map f d [] (x ∷ xs) n h = absurd (omega arith)
  is_map f d (y ∷ ys) [] n h = absurd (omega arith)
  is_map f d (y ∷ ys) (x ∷ xs) n h = let first : x ≡ f y = h 0 x refl in let rest : xs ≡ map f ys = is_map f d ys xs (omega arith) (λ j z e. h (suc j) z e) in
      λ i. first i ∷ rest i

pub zeros : (n k : ℕ) → let l : List ℕ = replicate n 0 in get_or l k 0 ≡ 0
zeros zero k = refl
zeros (suc n) zero = refl
zeros (suc n) (suc k) = zeros n k

pub elem_index : (l : List ℕ) (i x : ℕ) → get_elem? l i ≡ some x → x ≡ get_or l i 0
elem_index [] i x e = absurd (some-ne-none x (sym e))
elem_index (y ∷ ys) zero x e = sym (some-injective y x e)
elem_index (y ∷ ys) (suc i) x e = elem_index ys i x e
