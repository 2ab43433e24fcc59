-- What a token is.
use Rattle.std.specs.Prelude.{◌≡◌, ℕ, ◌≤◌, ◌==◌, ◌||◌, Bool, true, List, length}
use Rattle.std.specs.Char.{is_ascii_alphanumeric}
use Rattle.std.specs.List.{list_all}

-- a letter or a digit of ASCII, or one of -._~+/=
abbrev pub is_token_character : ℕ → Bool
is_token_character c = is_ascii_alphanumeric c || (c == 45) || (c == 46) || (c == 95) || (c == 126) || (c == 43) || (c == 47) || (c == 61)

-- 16 to 256 of these
pub record IsToken (token : List ℕ) : Type 0 where
  pub long : 16 ≤ length token
  pub short : length token ≤ 256
  pub characters : list_all is_token_character token ≡ true
