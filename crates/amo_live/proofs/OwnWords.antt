-- The words of a host's lives: those that were drawn, and those to come.
use Rattle.std.proofs.Common.{◌≡◌, ◌≢◌, ℕ, ◌+◌, inl, inr, Option, Some, None, IfSome, List, [], ◌∷◌, ◌++◌, refl, sym, ap, ◌∙◌, subst, arith}
use Rattle.std.specs.Io.KnownBytes.{Keeps}
use Rattle.std.specs.List.{AllByRecursion}
use Rattle.amo_word.specs.Distinct.{AreApart, AreDistinct, Progress, distinct_word}
use Rattle.amo_lives.specs.Lives.{LivesState, with_life}
use Rattle.amo_lives.specs.declared.life.Life.{Life}
use Rattle.amo_live.specs.HostLives.{AreOwn, Draws, IsBehind, IsDrawn, IsWordOf, to_come}
use Rattle.amo_live.specs.Words.{IsNew, StaysDrawn}

pub keeps_itself : (bytes : Option (List ℕ)) → Keeps bytes bytes
keeps_itself None = tt
keeps_itself (Some bytes) = refl

-- a word that was drawn comes no more
drawn_is_out : (before after : ℕ → Option ℕ) (word k : ℕ) → AreDistinct before → Draws before after word → after k ≢ Some word
drawn_is_out before after word k distinct draws is =
    let same : draws.place ≡ k + (draws.place + 1) = distinct draws.place (k + (draws.place + 1)) word draws.is (sym (draws.rest k) ∙ is) in omega (arith, same)

-- one word came, and then others
pub behind_one : (before after : ℕ → Option ℕ) → ((k : ℕ) → after k ≡ before (k + 1)) → IsBehind before after
behind_one before after rest = record { count = 1; rest = rest }

pub behind_on : (a b c : ℕ → Option ℕ) → IsBehind a b → IsBehind b c → IsBehind a c
behind_on a b c one two = record {
  count = one.count + two.count;
  rest = λ k. let same : (k + two.count) + one.count ≡ k + (one.count + two.count) = omega arith in two.rest k ∙ (one.rest (k + two.count) ∙ ap a same);
}

-- what is left of a life's words is its own, too
pub own_behind : (s : LivesState) (p q : Progress) → IsBehind (to_come p) (to_come q) → AreOwn s p → AreOwn s q
own_behind s p q behind own = record {
  distinct = λ i j word here there.
      let same : i + behind.count ≡ j + behind.count = own.distinct (i + behind.count) (j + behind.count) word (sym (behind.rest i) ∙ here) (sym (behind.rest j) ∙ there) in omega (arith, same);
  own = λ k word is. own.own (k + behind.count) word (sym (behind.rest k) ∙ is);
}

-- the next word of a life is new
pub next_is_new : (s : LivesState) (p q : Progress) (word : ℕ) → AreOwn s p → Draws (to_come p) (to_come q) word → IsNew (IsDrawn s (Some p)) (IsDrawn s (Some q)) word
next_is_new s p q word own draws = record {
  some = draws.some;
  out = λ drawn. drawn.1 draws.place draws.is;
  in_use = (own.own draws.place word draws.is, λ k is. drawn_is_out (to_come p) (to_come q) word k own.distinct draws is);
}

pub next_stays : (s : LivesState) (p q : Progress) → IsBehind (to_come p) (to_come q) → StaysDrawn (IsDrawn s (Some p)) (IsDrawn s (Some q))
next_stays s p q behind word drawn = (drawn.0, λ k is. drawn.1 (k + behind.count) (sym (behind.rest k) ∙ is))

-- the same, of what may be the words of a life, and of what may be its next word
pub next_may_be_new : (s : LivesState) (words : Option Progress) (p q : Progress) (r : Option ℕ) → words ≡ Some p → IfSome words (AreOwn s) → IfSome r (Draws (to_come p) (to_come q)) → IfSome r (IsNew (IsDrawn s words) (IsDrawn s (Some q)))
next_may_be_new s words p q None is own draws = tt
next_may_be_new s words p q (Some word) is own draws =
    subst (λ (w : Option Progress). IsNew (IsDrawn s w) (IsDrawn s (Some q)) word) (sym is) (next_is_new s p q word (subst (λ (w : Option Progress). IfSome w (AreOwn s)) is own) draws)

pub next_may_stay : (s : LivesState) (words : Option Progress) (p q : Progress) → words ≡ Some p → IsBehind (to_come p) (to_come q) → StaysDrawn (IsDrawn s words) (IsDrawn s (Some q))
next_may_stay s words p q is behind = subst (λ (w : Option Progress). StaysDrawn (IsDrawn s w) (IsDrawn s (Some q))) (sym is) (next_stays s p q behind)

-- a word of a life that is apart from all of these is a word of none of them
of_no_earlier : (key : List ℕ) (lives : List Life) (words : ℕ → Option ℕ) (k word : ℕ) → AllByRecursion (λ earlier. AreApart (distinct_word key earlier.tag) words) lives → words k ≡ Some word → IsWordOf key lives word → ⊥
of_no_earlier key [] words k word apart is of = of
of_no_earlier key (life ∷ lives) words k word apart is of = elim of [
  | inl here ↦ apart.0 here.0 k word here.1 is
  | inr there ↦ of_no_earlier key lives words k word apart.1 is there
]

of_earlier : (key : List ℕ) (lives : List Life) (life : Life) (word : ℕ) → IsWordOf key lives word → IsWordOf key (lives ++ life ∷ []) word
of_earlier key [] life word of = absurd of
of_earlier key (other ∷ lives) life word of = elim of [ inl here ↦ inl here | inr there ↦ inr (of_earlier key lives life word there) ]

of_last : (key : List ℕ) (lives : List Life) (life : Life) (k word : ℕ) → distinct_word key life.tag k ≡ Some word → IsWordOf key (lives ++ life ∷ []) word
of_last key [] life k word is = inl (k, is)
of_last key (other ∷ lives) life k word is = inr (of_last key lives life k word is)

-- the words of a life that has begun
pub own_of_last : (s t : LivesState) (life : Life) (p : Progress) → t ≡ with_life s life → ((k : ℕ) → to_come p k ≡ distinct_word s.key life.tag k) → AreDistinct (to_come p) → AreOwn t p
own_of_last s t life p grown words distinct = subst (λ (u : LivesState). AreOwn u p) (sym grown) (record {
  distinct = distinct;
  own = λ k word is. of_last s.key s.lives life k word (sym (words k) ∙ is);
})

module _ (s t : LivesState) (before : Option Progress) (life : Life) (p q : Progress) (grown : t ≡ with_life s life) (words : (k : ℕ) → to_come p k ≡ distinct_word s.key life.tag k)
    (distinct : AreDistinct (to_come p)) (apart : AllByRecursion (λ earlier. AreApart (distinct_word s.key earlier.tag) (to_come p)) s.lives) where
  -- its first word is new
  pub first_is_new : (word : ℕ) → Draws (to_come p) (to_come q) word → IsNew (IsDrawn s before) (IsDrawn t (Some q)) word
  first_is_new word draws = record {
    some = draws.some;
    out = λ drawn. of_no_earlier s.key s.lives (to_come p) draws.place word apart draws.is drawn.0;
    in_use = subst (λ (u : LivesState). IsDrawn u (Some q) word) (sym grown)
        (of_last s.key s.lives life draws.place word (sym (words draws.place) ∙ draws.is), λ k is. drawn_is_out (to_come p) (to_come q) word k distinct draws is);
  }

  pub first_stays : IsBehind (to_come p) (to_come q) → StaysDrawn (IsDrawn s before) (IsDrawn t (Some q))
  first_stays behind word drawn = subst (λ (u : LivesState). IsDrawn u (Some q) word) (sym grown)
      (of_earlier s.key s.lives life word drawn.0, λ k is. of_no_earlier s.key s.lives (to_come p) (k + behind.count) word apart (sym (behind.rest k) ∙ is) drawn.0)
