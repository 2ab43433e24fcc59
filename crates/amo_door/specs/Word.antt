-- The words by which callers name a life and themselves.
use Rattle.std.specs.Prelude.{◌≡◌, ℕ, ◌≤◌, ◌==◌, ◌||◌, Bool, true, List, length}
use Rattle.std.specs.Char.{is_ascii_alphanumeric}
use Rattle.std.specs.List.{list_all}

-- a letter, a digit, a dash or an underscore of ASCII
abbrev pub is_word_character : ℕ → Bool
is_word_character c = is_ascii_alphanumeric c || (c == 45) || (c == 95)

-- 1 to 32 of these
pub record IsWord (text : List ℕ) : Type 0 where
  pub some : 1 ≤ length text
  pub short : length text ≤ 32
  pub characters : list_all is_word_character text ≡ true
