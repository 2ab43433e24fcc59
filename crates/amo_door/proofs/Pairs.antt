-- What pairs give, one after another.
use Rattle.std.proofs.Common.{◌≡◌, ℕ, ◌+◌, Bool, true, false, cond, Option, None, Some, List, [], ◌∷◌, ◌++◌, length, refl, sym, ◌∙◌, ap, subst, arith, append_assoc, length-append, inl, inr, set, get_or, eqb, ◌<◌}
use Rattle.std.proofs.lemmas.Bool.{eq-eqb}
use Rattle.std.proofs.lemmas.Bool.Decides.{eqb_tells}
use Rattle.std.proofs.lemmas.Grind.{get_or-set_at}
use Rattle.std.proofs.lemmas.List.{append-nil, get_or-set_other}
use Rattle.std.specs.Prelude.{is_some, option_to_list}
use Rattle.std.specs.List.{AllByRecursion, Contains}
use Rattle.std.proofs.lemmas.List.Elements.{Contains-append_right}
use Rattle.amo_door.specs.declared.query.Parameter.{Parameter}
use Rattle.amo_door.specs.declared.query.Parameter.TheVariants.{Life, By, Number, Wait, Until, After}
use Rattle.amo_door.specs.declared.query.QueryFault.TheVariants.{Repeated, Unknown}
use Rattle.amo_door.specs.Query.{Faults, Given, Gives, IsKnown, all_of, names, nothing, place_of, parameter_of, value_of, values_of, with_value}

-- what more pairs give stands behind
pub values-append : (p : Parameter) (xs ys : List (List ℕ × List ℕ)) → values_of p (xs ++ ys) ≡ values_of p xs ++ values_of p ys
values-append p [] ys = refl
values-append p (x ∷ xs) ys = go (names p (parameter_of x.0)) (values-append p xs ys)
  where
    go : (b : Bool) → values_of p (xs ++ ys) ≡ values_of p xs ++ values_of p ys
        → cond b (x.1 ∷ values_of p (xs ++ ys)) (values_of p (xs ++ ys)) ≡ cond b (x.1 ∷ values_of p xs) (values_of p xs) ++ values_of p ys
    go true e = ap (λ (vs : List (List ℕ)). x.1 ∷ vs) e
    go false e = e

-- known names stay known
known-append : (xs ys : List (List ℕ × List ℕ)) → AllByRecursion IsKnown xs → AllByRecursion IsKnown ys → AllByRecursion IsKnown (xs ++ ys)
known-append [] ys a b = b
known-append (x ∷ xs) ys a b = (a.0, known-append xs ys a.1 b)

-- what is given with one value more is the list of what was given, with this at its parameter's place
all_more : (given : Given) (q : Parameter) (value : List ℕ) → (all_of (with_value given q value) ≡ set (all_of given) (place_of q) (Some value)) × (place_of q < length (all_of given))
all_more given Life value = (refl, omega arith)
all_more given By value = (refl, omega arith)
all_more given Number value = (refl, omega arith)
all_more given Wait value = (refl, omega arith)
all_more given Until value = (refl, omega arith)
all_more given After value = (refl, omega arith)

-- one value more that is given, whatever parameter is asked for
value_more : (given : Given) (p q : Parameter) (value : List ℕ) → value_of given q ≡ None
    → option_to_list (value_of (with_value given q value) p) ≡ option_to_list (value_of given p) ++ cond (eqb (place_of p) (place_of q)) (value ∷ []) []
value_more given p q value none =
    let more = all_more given q value in
    let now : value_of (with_value given q value) p ≡ get_or (set (all_of given) (place_of q) (Some value)) (place_of p) None = ap (λ (all : List (Option (List ℕ))). get_or all (place_of p) None) more.0 in
    elim (eqb_tells (place_of p) (place_of q)) [
      | inl same ↦
          let here : value_of (with_value given q value) p ≡ Some value = now ∙ get_or-set_at (all_of given) (place_of q) (place_of p) (Some value) None same.1 more.1 in
          let was : value_of given p ≡ None = ap (λ (n : ℕ). get_or (all_of given) n None) same.1 ∙ none in
          rw (here, was, same.0) refl
      | inr other ↦
          let here : value_of (with_value given q value) p ≡ value_of given p = now ∙ get_or-set_other (all_of given) (place_of q) (place_of p) (Some value) None other.1 in
          rw (here, other.0, append-nil) refl
    ]

-- pairs with one more give one value more
pub gives_more : (pairs : List (List ℕ × List ℕ)) (given : Given) (name value : List ℕ) (q : Parameter) → Gives pairs given → parameter_of name ≡ Some q → value_of given q ≡ None
    → Gives (pairs ++ (name, value) ∷ []) (with_value given q value)
gives_more pairs given name value q h is none = record {
  known = known-append pairs ((name, value) ∷ []) h.known ((λ (e : parameter_of name ≡ None). cc (sym is, e)), tt);
  values = λ p.
      values-append p pairs ((name, value) ∷ [])
      ∙ (ap (λ (vs : List (List ℕ)). vs ++ values_of p ((name, value) ∷ [])) (h.values p)
      ∙ (ap (λ (o : Option Parameter). option_to_list (value_of given p) ++ cond (names p o) (value ∷ []) []) is
      ∙ sym (value_more given p q value none)));
}

-- the pairs in front give this, and these are left
pub record GoesOn (all left : List (List ℕ × List ℕ)) (given : Given) : Type 0 where
  pub front : List (List ℕ × List ℕ)
  pub parts : all ≡ front ++ left
  pub gives : Gives front given

-- nothing was read yet
pub starts : (all : List (List ℕ × List ℕ)) → GoesOn all all nothing
starts all = record { front = []; parts = refl; gives = record { known = tt; values = λ p. none p } }
  where
    none : (p : Parameter) → [] ≡ option_to_list (value_of nothing p)
    none Life = refl
    none By = refl
    none Number = refl
    none Wait = refl
    none Until = refl
    none After = refl

-- one pair more was read
pub goes_on : (all left rest : List (List ℕ × List ℕ)) (given : Given) (name value : List ℕ) (q : Parameter) → GoesOn all left given → left ≡ (name, value) ∷ rest
    → parameter_of name ≡ Some q → value_of given q ≡ None → GoesOn all rest (with_value given q value)
goes_on all left rest given name value q h first is none = record {
  front = h.front ++ (name, value) ∷ [];
  parts = h.parts ∙ (ap (λ (more : List (List ℕ × List ℕ)). h.front ++ more) first ∙ sym (append_assoc h.front ((name, value) ∷ []) rest));
  gives = gives_more h.front given name value q h.gives is none;
}

-- all pairs were read
pub ends : (all left : List (List ℕ × List ℕ)) (given : Given) → GoesOn all left given → left ≡ [] → Gives all given
ends all left given h none =
    let whole : all ≡ h.front = h.parts ∙ (ap (λ (more : List (List ℕ × List ℕ)). h.front ++ more) none ∙ append-nil h.front) in
    subst (λ (pairs : List (List ℕ × List ℕ)). Gives pairs given) (sym whole) h.gives

-- a pair whose name is unknown
pub unknown : (all left rest : List (List ℕ × List ℕ)) (given : Given) (name value : List ℕ) → GoesOn all left given → left ≡ (name, value) ∷ rest → parameter_of name ≡ None
    → Faults all Unknown
unknown all left rest given name value h first none =
    let here : Contains ((name, value) ∷ rest) (name, value) = (0, omega arith, refl) in
    let there = Contains-append_right h.front ((name, value) ∷ rest) (name, value) here in
    let whole : all ≡ h.front ++ (name, value) ∷ rest = h.parts ∙ ap (λ (more : List (List ℕ × List ℕ)). h.front ++ more) first in
    ((name, value), subst (λ (pairs : List (List ℕ × List ℕ)). Contains pairs (name, value)) (sym whole) there, none)

-- a name that comes again
pub repeated : (all left rest : List (List ℕ × List ℕ)) (given : Given) (name value : List ℕ) (q : Parameter) → GoesOn all left given → left ≡ (name, value) ∷ rest
    → parameter_of name ≡ Some q → is_some (value_of given q) ≡ true → Faults all (Repeated q)
repeated all left rest given name value q h first is some =
    let whole : all ≡ h.front ++ (name, value) ∷ rest = h.parts ∙ ap (λ (more : List (List ℕ × List ℕ)). h.front ++ more) first in
    let parts : values_of q all ≡ values_of q h.front ++ values_of q ((name, value) ∷ rest) = ap (values_of q) whole ∙ values-append q h.front ((name, value) ∷ rest) in
    let once : length (values_of q h.front) ≡ 1 = ap (λ (vs : List (List ℕ)). length vs) (h.gives.values q) ∙ one (value_of given q) some in
    let again : values_of q ((name, value) ∷ rest) ≡ value ∷ values_of q rest = ap (λ (o : Option Parameter). cond (names q o) (value ∷ values_of q rest) (values_of q rest)) is ∙ ap (λ (b : Bool). cond b (value ∷ values_of q rest) (values_of q rest)) (eq-eqb (place_of q) (place_of q) refl) in
    let counted : length (values_of q all) ≡ length (values_of q h.front) + length (value ∷ values_of q rest) = ap (λ (vs : List (List ℕ)). length vs) parts ∙ (length-append (values_of q h.front) (values_of q ((name, value) ∷ rest)) ∙ ap (λ (vs : List (List ℕ)). length (values_of q h.front) + length vs) again) in
    omega (arith, counted, once)
  where
    one : (o : Option (List ℕ)) → is_some o ≡ true → length (option_to_list o) ≡ 1
    one None e = cc
    one (Some x) e = refl
