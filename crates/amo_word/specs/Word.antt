-- Words of 64 bits from the key stream of ChaCha20.
use Rattle.std.specs.Prelude.{ℕ, ◌+◌, ◌*◌, ◌%◌, ◌^◌, List}
use Rattle.rand_chacha.specs.ChaCha as chacha

-- the ChaCha20 word of 32 bits at a place of a stream; the places of a stream repeat after 2 ^ 68
abbrev pub half_at : List ℕ → ℕ → ℕ → ℕ
half_at key stream place = chacha.word_at 10 key stream (place % 2 ^ 68)

-- word k of a key and a stream number: two ChaCha20 words in a row, the low half first
abbrev pub key_word : List ℕ → ℕ → ℕ → ℕ
key_word key stream k = half_at key stream (2 * k) + 2 ^ 32 * half_at key stream (2 * k + 1)

-- word k of a seed and a stream number
abbrev pub word_at : List ℕ → ℕ → ℕ → ℕ
word_at seed stream k = key_word (chacha.key_of seed) stream k

-- where a source stands: its key, its stream number, and which word comes next
pub record Source : Type 0 where
  pub key : List ℕ
  pub stream : ℕ
  pub place : ℕ
