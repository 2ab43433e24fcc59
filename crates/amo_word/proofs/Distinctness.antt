-- The words of one key are distinct, since they are a bijection's values at counters that differ.
use Rattle.std.proofs.Common.{◌≡◌, ◌≢◌, ℕ, ◌+◌, ◌*◌, ◌^◌, ◌<◌, sym, ap, ◌∙◌, List, [], ◌∷◌, Some, lit<, arith}
use Rattle.std.proofs.lemmas.Bool.Decides.{nat_tests}
use Rattle.std.proofs.lemmas.Nat.{mod_below, same_from_place}
use Rattle.amo_word.specs.SipHash.{siphash}
use Rattle.amo_word.specs.Distinct.{message, round_function, shuffled, unshuffled, distinct_word, AreDistinct, AreApart}
use Rattle.amo_word.proofs.Network.{AreBounded, network_fits, inverse_network_fits, inverse_network-network, network-inverse_network}

bounded : (key : List ℕ) → AreBounded (round_function key)
unfolding round_function
bounded key round half = mod_below (siphash key (message round half ∷ [])) (2 ^ 32) (lit< tt)

pub shuffled_fits : (key : List ℕ) (n : ℕ) → n < 2 ^ 64 → shuffled key n < 2 ^ 64
shuffled_fits key = network_fits (round_function key) (bounded key) 4

pub unshuffled_fits : (key : List ℕ) (n : ℕ) → n < 2 ^ 64 → unshuffled key n < 2 ^ 64
unshuffled_fits key = inverse_network_fits (round_function key) (bounded key) 4

pub unshuffled-shuffled : (key : List ℕ) (n : ℕ) → n < 2 ^ 64 → unshuffled key (shuffled key n) ≡ n
unshuffled-shuffled key = inverse_network-network (round_function key) (bounded key) 4

pub shuffled-unshuffled : (key : List ℕ) (n : ℕ) → n < 2 ^ 64 → shuffled key (unshuffled key n) ≡ n
shuffled-unshuffled key = network-inverse_network (round_function key) (bounded key) 4

pub ruleset bijection = (shuffled_fits, unshuffled_fits, unshuffled-shuffled, shuffled-unshuffled)

-- numbers with one value are one
injective : (key : List ℕ) (m n : ℕ) → m < 2 ^ 64 → n < 2 ^ 64 → shuffled key m ≡ shuffled key n → m ≡ n
injective key m n m_fits n_fits same =
    sym (unshuffled-shuffled key m m_fits) ∙ ap (unshuffled key) same ∙ unshuffled-shuffled key n n_fits

-- where a word stands, it is the value at the counter
at_counter : (key : List ℕ) (tag k word : ℕ) → distinct_word key tag k ≡ Some word
    → (k < 2 ^ 32) × (shuffled key (tag * 2 ^ 32 + k) ≡ word)
at_counter key tag k word is = grind (arith, nat_tests)

-- a word has one tag and one place
same_place : (key : List ℕ) (tag other i j word : ℕ) → tag < 2 ^ 32 → other < 2 ^ 32
    → distinct_word key tag i ≡ Some word → distinct_word key other j ≡ Some word → (tag ≡ other) × (i ≡ j)
same_place key tag other i j word tag_fits other_fits is_i is_j =
    let at_i = at_counter key tag i word is_i in
    let at_j = at_counter key other j word is_j in
    let same = injective key (tag * 2 ^ 32 + i) (other * 2 ^ 32 + j) (omega arith) (omega arith) (at_i.1 ∙ sym at_j.1) in
    same_from_place tag i other j (2 ^ 32) at_i.0 at_j.0 same

pub words_are_distinct : (key : List ℕ) (tag : ℕ) → tag < 2 ^ 32 → AreDistinct (distinct_word key tag)
words_are_distinct key tag fits i j word is_i is_j = (same_place key tag tag i j word fits fits is_i is_j).1

pub tags_are_apart : (key : List ℕ) (tag other : ℕ) → tag < 2 ^ 32 → other < 2 ^ 32 → tag ≢ other
    → AreApart (distinct_word key tag) (distinct_word key other)
tags_are_apart key tag other tag_fits other_fits differ i j word is_i is_j =
    differ (same_place key tag other i j word tag_fits other_fits is_i is_j).0
