-- A life whose tag is new has none of the words of others.
use Rattle.std.proofs.Common.{◌≡◌, ◌≢◌, ℕ, ◌<◌, ◌^◌, false, eqb, Option, List, [], ◌∷◌, sym, ◌∙◌}
use Rattle.std.specs.List.{AllByRecursion}
use Rattle.std.proofs.lemmas.Bool.{eqb-false, or_parts}
use Rattle.amo_word.specs.Distinct.{AreApart, AreDistinct, distinct_word}
use Rattle.amo_word.proofs.Distinctness.{tags_are_apart, words_are_distinct}
use Rattle.amo_lives.specs.declared.life.Life.{Life}
use Rattle.amo_lives.specs.Life.{InRange}
use Rattle.amo_lives.specs.Lives.{has_tag}

-- a source that gives the words of a key and a tag
module _ (key : List ℕ) (tag : ℕ) (words : ℕ → Option ℕ) (small : tag < 2 ^ 32) (are : (k : ℕ) → words k ≡ distinct_word key tag k) where
  pub distinct : AreDistinct words
  distinct i j word here there = words_are_distinct key tag small i j word (sym (are i) ∙ here) (sym (are j) ∙ there)

  apart_from : (other : ℕ) → other < 2 ^ 32 → other ≢ tag → AreApart (distinct_word key other) words
  apart_from other small' ne i j word here there = tags_are_apart key other tag small' small ne i j word here (sym (are j) ∙ there)

  pub all_apart : (lives : List Life) → AllByRecursion InRange lives → has_tag lives tag ≡ false → AllByRecursion (λ earlier. AreApart (distinct_word key earlier.tag) words) lives
  all_apart [] known new = tt
  all_apart (life ∷ lives) known new =
      let both = or_parts (eqb tag life.tag) (has_tag lives tag) new in
      (apart_from life.tag known.0.tag (λ same. eqb-false tag life.tag both.0 (sym same)), all_apart lives known.1 both.1)
