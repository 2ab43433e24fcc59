-- Messages that wait, as they come and go.
use Rattle.std.proofs.Common.{◌≡◌, ◌≢◌, ◌==◌, ℕ, zero, suc, ◌+◌, ◌<◌, ◌≤◌, Bool, not, true, false, if◌then◌else◌, List, [], ◌∷◌, ◌++◌, length, map, get_or, slice_set, refl, sym, ap, ◌∙◌, append-nil, arith}
use Rattle.std.proofs.Math.Dec.{eqb-zero-suc}
use Rattle.std.proofs.lemmas.Bool.{eqb-true, eq-eqb, true≢false}
use Rattle.std.proofs.lemmas.List.{get_or-map, get_or-set_same, get_or-set_other, get_or_past, length-map, map-set}
use Rattle.amo_lines.specs.Backlog.{kept_on, message_on}

-- none waits where nothing is kept for a stream
pub empty_more : {A B : Type 0} (f : A → List B) (xs : List A) (x : A) → f x ≡ [] → ((at : ℕ) → get_or (map f xs) at [] ≡ []) → (at : ℕ) → get_or (map f (xs ++ x ∷ [])) at [] ≡ []
empty_more f [] x e none zero = e
empty_more f [] x e none (suc at) = refl
empty_more f (y ∷ ys) x e none zero = none 0
empty_more f (y ∷ ys) x e none (suc at) = empty_more f ys x e (λ b. none (suc b)) at

pub all_empty : {A B : Type 0} (f : A → List B) (xs : List A) → ((at : ℕ) → get_or (map f xs) at [] ≡ []) → (stream : ℕ) → kept_on stream (map f xs) ≡ []
all_empty f xs none zero = refl
all_empty f xs none (suc at) = none at

-- there is no such stream
pub none_beyond : {A B : Type 0} (f : A → List B) (xs : List A) (place stream : ℕ) → length xs ≤ place → stream ≡ place + 1 → kept_on stream (map f xs) ≡ []
none_beyond f xs place zero far is = refl
none_beyond f xs place (suc at) far is = get_or_past (map f xs) at [] (omega (arith, far, is, length-map xs f))

pub no_stream : {B : Type 0} (stream : ℕ) (backlog : List (List B)) → (1 ≤ stream → ⊥) → kept_on stream backlog ≡ []
no_stream zero backlog none = refl
no_stream (suc at) backlog none = absurd (none (omega arith))

module _ {A B : Type 0} (f : A → List B) (xs : List A) (place : ℕ) (old new : A) (few : place < length xs) (is : old ≡ get_or xs place old) where
  -- what is kept in each place, where one is changed
  new_in : (at : ℕ) (same : Bool) → (suc at == suc place) ≡ same → kept_on (suc at) (map f (slice_set xs place new)) ≡ (if same then f new else kept_on (suc at) (map f xs))
  new_in at true e =
      let here : at ≡ place = omega (arith, eqb-true (suc at) (suc place) e) in
      ap (λ k. get_or (map f (slice_set xs place new)) k []) here ∙ (ap (λ l. get_or l place []) (map-set f xs place new) ∙ get_or-set_same (map f xs) place (f new) [] (omega (arith, few, length-map xs f)))
  new_in at false e =
      let apart : at ≢ place = λ same. let no : true ≡ false = sym (eq-eqb (suc at) (suc place) (ap suc same)) ∙ e in absurd (true≢false no) in
      ap (λ l. get_or l at []) (map-set f xs place new) ∙ get_or-set_other (map f xs) place at (f new) [] apart

  old_in : (at : ℕ) → (suc at == suc place) ≡ true → kept_on (suc at) (map f xs) ≡ f old
  old_in at e =
      let here : at ≡ place = omega (arith, eqb-true (suc at) (suc place) e) in
      ap (λ k. get_or (map f xs) k []) here ∙ (get_or-map f xs place old [] few ∙ ap f (sym is))

  keeps_in : (message : B) → f new ≡ f old ++ message ∷ [] → (at : ℕ) (same : Bool) → (suc at == suc place) ≡ same
      → kept_on (suc at) (map f (slice_set xs place new)) ≡ kept_on (suc at) (map f xs) ++ (if same then (message ∷ []) else [])
  keeps_in message made at true e = new_in at true e ∙ (made ∙ ap (λ l. l ++ message ∷ []) (sym (old_in at e)))
  keeps_in message made at false e = new_in at false e ∙ sym (append-nil (kept_on (suc at) (map f xs)))

  pub keeps_on : (message : B) → f new ≡ f old ++ message ∷ [] → (at : ℕ) → kept_on at (map f (slice_set xs place new)) ≡ kept_on at (map f xs) ++ message_on at (suc place, message)
  keeps_on message made zero = ap (λ b. if b then (message ∷ []) else []) (sym (eqb-zero-suc place))
  keeps_on message made (suc at) = keeps_in message made at (suc at == suc place) refl

  backs_in : (message : B) → f new ≡ message ∷ f old → (at : ℕ) (same : Bool) → (suc at == suc place) ≡ same
      → kept_on (suc at) (map f (slice_set xs place new)) ≡ (if same then (message ∷ []) else []) ++ kept_on (suc at) (map f xs)
  backs_in message made at true e = new_in at true e ∙ (made ∙ ap (λ l. message ∷ l) (sym (old_in at e)))
  backs_in message made at false e = new_in at false e

  pub backs_on : (message : B) → f new ≡ message ∷ f old → (at : ℕ) → kept_on at (map f (slice_set xs place new)) ≡ message_on at (suc place, message) ++ kept_on at (map f xs)
  backs_on message made zero = ap (λ b. (if b then (message ∷ []) else []) ++ []) (sym (eqb-zero-suc place))
  backs_on message made (suc at) = backs_in message made at (suc at == suc place) refl

  takes_in : (message : B) → f old ≡ message ∷ f new → (at : ℕ) (same : Bool) → (suc at == suc place) ≡ same
      → kept_on (suc at) (map f xs) ≡ (if same then (message ∷ []) else []) ++ kept_on (suc at) (map f (slice_set xs place new))
  takes_in message made at true e = old_in at e ∙ (made ∙ ap (λ l. message ∷ l) (sym (new_in at true e)))
  takes_in message made at false e = sym (new_in at false e)

  pub takes_on : (message : B) → f old ≡ message ∷ f new → (at : ℕ) → kept_on at (map f xs) ≡ message_on at (suc place, message) ++ kept_on at (map f (slice_set xs place new))
  takes_on message made zero = ap (λ b. (if b then (message ∷ []) else []) ++ []) (sym (eqb-zero-suc place))
  takes_on message made (suc at) = takes_in message made at (suc at == suc place) refl

  -- none waits in an empty place
  pub none_in : f old ≡ [] → kept_on (suc place) (map f xs) ≡ []
  none_in none = get_or-map f xs place old [] few ∙ (ap f (sym is) ∙ none)

pub not_no : (b : Bool) → not b ≡ false → b ≡ true
not_no true e = refl
not_no false e = absurd (true≢false e)
