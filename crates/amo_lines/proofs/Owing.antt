-- Ids of messages that have no answer, as they come and go, and what is told of them.
use Rattle.std.proofs.Common.{◌≡◌, ℕ, zero, suc, ◌<◌, List, [], ◌∷◌, ◌++◌, None, length, map, get_or, slice_set, refl, sym, ap, ◌∙◌, append_assoc}
use Rattle.std.proofs.Math.Seq.{map-set_same}
use Rattle.std.proofs.lemmas.List.{get_or-map, map-set}
use Rattle.amo_lines.specs.Backlog.{kept_on}
use Rattle.amo_lines.specs.Object.{Name}
use Rattle.amo_lines.specs.Owed.{Owed, answered, first_id, first_of, owing, without_first}

-- where none is owed an answer
pub none_answered : (stream : ℕ) (owed : Owed) → kept_on stream owed ≡ [] → owed ≡ answered stream owed
none_answered zero owed none = refl
none_answered (suc place) owed none = ap (without_first owed place) (sym none)

pub none_first : (stream : ℕ) (owed : Owed) → kept_on stream owed ≡ [] → None ≡ first_id stream owed
none_first stream owed none = ap first_of (sym none)

module _ {A : Type 0} (f : A → List Name) (xs : List A) (place : ℕ) (old new : A) (few : place < length xs) (is : old ≡ get_or xs place old) where
  here : get_or (map f xs) place [] ≡ f old
  here = get_or-map f xs place old [] few ∙ ap f (sym is)

  -- one more is
  pub owes : (id : Name) → f new ≡ f old ++ id ∷ [] → map f (slice_set xs place new) ≡ owing (suc place) id (map f xs)
  owes id made = map-set f xs place new ∙ ap (slice_set (map f xs) place) (made ∙ ap (λ l. l ++ id ∷ []) (sym here))

  -- the first has its answer
  pub first_is : (id : Name) → f old ≡ id ∷ f new → id ≡ first_id (suc place) (map f xs)
  first_is id took = ap first_of (sym took ∙ sym here)

  pub rest_is : (id : Name) → f old ≡ id ∷ f new → map f (slice_set xs place new) ≡ answered (suc place) (map f xs)
  rest_is id took = map-set f xs place new ∙ ap (without_first (map f xs) place) (sym took ∙ sym here)

  -- or there is none
  pub first_none : f old ≡ [] → None ≡ first_id (suc place) (map f xs)
  first_none none = ap first_of (sym none ∙ sym here)

  pub rest_none : f old ≡ [] → f new ≡ f old → map f (slice_set xs place new) ≡ answered (suc place) (map f xs)
  rest_none none same = map-set_same f xs place new old (same ∙ ap f is) ∙ ap (without_first (map f xs) place) (sym none ∙ sym here)

-- a text that was appended in two parts, and in four
two_parts : (old one two first second : List ℕ) → one ≡ old ++ first → two ≡ one ++ second → two ≡ old ++ (first ++ second)
two_parts old one two first second a b = b ∙ (ap (λ (l : List ℕ). l ++ second) a ∙ append_assoc old first second)

pub four_parts : (old one two three four first second third fourth : List ℕ) → one ≡ old ++ first → two ≡ one ++ second → three ≡ two ++ third → four ≡ three ++ fourth → four ≡ old ++ (((first ++ second) ++ third) ++ fourth)
four_parts old one two three four first second third fourth a b c d =
    two_parts old three four ((first ++ second) ++ third) fourth (two_parts old two three (first ++ second) third (two_parts old one two first second a b) c) d
