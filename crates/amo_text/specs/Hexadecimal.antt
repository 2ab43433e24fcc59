-- Bytes as text.
use Rattle.std.specs.Prelude.{ℕ, ◌≡◌, ◌%◌, ◌<◌, Bool, nat_le, ◌&&◌, ◌||◌, List, [], ◌∷◌, length, IsTrue, codes}
use Rattle.std.specs.List.{list_all}
use Rattle.hex.specs.Hex.{encode_lower}

-- two digits a byte, and a dash for no bytes
abbrev pub hex : List ℕ → List ℕ
hex [] = codes "-"
hex (byte ∷ bytes) = encode_lower (byte ∷ bytes)

-- `0` to `9`, and `a` to `f`
abbrev pub is_hex_digit : ℕ → Bool
is_hex_digit c = (nat_le 48 c && nat_le c 57) || (nat_le 97 c && nat_le c 102)

-- pairs of digits, one at least
pub record IsPairs (text : List ℕ) : Type 0 where
  pub some : 0 < length text
  pub even : length text % 2 ≡ 0
  pub digits : IsTrue (list_all is_hex_digit text)
