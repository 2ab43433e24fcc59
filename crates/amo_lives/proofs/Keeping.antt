-- Lives that are kept with the set of their tags and with their reach: one life more, and how far a part of them reaches.
use Rattle.std.proofs.Common.{◌≡◌, ℕ, ◌+◌, ◌<◌, ◌≤◌, Bool, true, false, cond, eqb, ◌||◌, max, List, [], ◌∷◌, ◌++◌, length, get_or, take, drop, refl, sym, ◌∙◌, ap, arith}
use Rattle.std.specs.Cmp.{nat_eq_equiv}
use Rattle.std.specs.List.{list_any}
use Rattle.std.proofs.lemmas.List.{drop_more, take-append-drop}
use Rattle.std.proofs.lemmas.List.Folds.{list_any-append}
use Rattle.amo_lives.specs.declared.life.Life.{Life}
use Rattle.amo_lives.specs.Kept.{IsKept}
use Rattle.amo_lives.specs.Life.{InRange}
use Rattle.amo_lives.specs.Lives.{MayFollow, has_tag, reach}
use Rattle.amo_lives.proofs.Files.{one_more}

-- how far lives reach, with one more
pub reach-append : (xs ys : List Life) → reach (xs ++ ys) ≡ max (reach xs) (reach ys)
reach-append [] ys = omega arith
reach-append (x ∷ xs) ys = let rest = reach-append xs ys in omega (arith, rest)

pub reach_more : (lives : List Life) (life : Life) → reach lives ≤ life.first_line → life.first_line ≡ reach (lives ++ life ∷ [])
reach_more lives life behind = let all = reach-append lives (life ∷ []) in omega (arith, all)

-- one tag more
or_last : (a b : Bool) → cond b true a ≡ (a || (b || false))
or_last true true = refl
or_last true false = refl
or_last false true = refl
or_last false false = refl

pub tag_more : (old new : List ℕ) (lives : List Life) (life : Life) → ((tag : ℕ) → list_any (eqb tag) old ≡ has_tag lives tag)
    → ((tag : ℕ) → list_any (eqb tag) new ≡ cond (eqb life.tag tag) true (list_any (eqb tag) old)) → (tag : ℕ) → list_any (eqb tag) new ≡ has_tag (lives ++ life ∷ []) tag
tag_more old new lives life known grown tag =
    grown tag ∙ or_last (list_any (eqb tag) old) (eqb life.tag tag)
    ∙ ap (λ (b : Bool). list_any (eqb tag) old || (b || false)) (nat_eq_equiv.symm life.tag tag)
    ∙ ap (λ (b : Bool). b || (eqb tag life.tag || false)) (known tag)
    ∙ sym (list_any-append (λ (l : Life). eqb tag l.tag) lives (life ∷ []))

pub keeps : (key : List ℕ) (lives : List Life) (old new : List ℕ) (furthest : ℕ) (life : Life) → IsKept key lives old furthest → InRange life → MayFollow lives life
    → ((tag : ℕ) → list_any (eqb tag) new ≡ cond (eqb life.tag tag) true (list_any (eqb tag) old)) → IsKept key (lives ++ life ∷ []) new life.first_line
keeps key lives old new furthest life kept known follows grown = record {
  key_is = kept.key_is;
  lives_are = one_more lives life kept.lives_are known follows;
  tags_are = tag_more old new lives life kept.tags_are grown;
  furthest_is = reach_more lives life follows.first_line;
}

-- the life at a place, and those before and after it
pub parted : (lives : List Life) (place : ℕ) (life : Life) → place < length lives → life ≡ get_or lives place life → lives ≡ take place lives ++ life ∷ drop (place + 1) lives
parted lives place life within here =
    sym (take-append-drop place lives) ∙ ap (λ (t : List Life). take place lives ++ t) (drop_more lives place life within ∙ ap (λ (l : Life). l ∷ drop (place + 1) lives) (sym here))

pub within_reach : (lives : List Life) (place : ℕ) (life : Life) → place < length lives → life ≡ get_or lives place life → life.first_line ≤ reach lives
within_reach lives place life within here =
    let whole = ap reach (parted lives place life within here) ∙ reach-append (take place lives) (life ∷ drop (place + 1) lives) in
    omega (arith, whole)
