-- Words that are distinct by construction: the values of a keyed bijection at a counter.
use Rattle.std.specs.Prelude.{◌≡◌, ◌≢◌, ℕ, ◌+◌, ◌*◌, ◌%◌, ◌^◌, nat_lt, if◌then◌else◌, List, [], ◌∷◌, Option, Some, None}
use Rattle.amo_word.specs.Feistel.{network, inverse_network}
use Rattle.amo_word.specs.SipHash.{siphash}

-- the word that five bytes are parsed into: the four of a half, the low one first, and a round's number
abbrev pub message : ℕ → ℕ → ℕ
message round half = (5 * 2 ^ 24 + round) * 2 ^ 32 + half

-- the function of a round under a key: the lower half of the hash
unfoldable pub round_function : List ℕ → ℕ → ℕ → ℕ
round_function key round half = siphash key (message round half ∷ []) % 2 ^ 32

-- the bijection of a key, a network of four rounds, and its inverse
abbrev pub shuffled : List ℕ → ℕ → ℕ
shuffled key = network (round_function key) 4

abbrev pub unshuffled : List ℕ → ℕ → ℕ
unshuffled key = inverse_network (round_function key) 4

-- word k of a key and a tag, or none past the last: the value at the counter of which the tag is the upper half, and k the lower
abbrev pub distinct_word : List ℕ → ℕ → ℕ → Option ℕ
distinct_word key tag k = if nat_lt k (2 ^ 32) then Some (shuffled key (tag * 2 ^ 32 + k)) else None

-- no word stands at two places
abbrev pub AreDistinct : (ℕ → Option ℕ) → Type 0
AreDistinct words = (i j word : ℕ) → words i ≡ Some word → words j ≡ Some word → i ≡ j

-- no word stands here and there
abbrev pub AreApart : (ℕ → Option ℕ) → (ℕ → Option ℕ) → Type 0
AreApart here there = (i j word : ℕ) → here i ≡ Some word → there j ≢ Some word

-- how far a source has come: its key, its tag, and how many of their words came
pub record Progress : Type 0 where
  pub key : List ℕ
  pub tag : ℕ
  pub count : ℕ
