-- Decimals in front of a text.
use Rattle.std.specs.Prelude.{ℕ, List, slice_index}
use Rattle.std.specs.Char.{IsAsciiDigit}

-- no digit is its first byte: it is empty, or another byte is
abbrev pub HasNoDigitInFront : List ℕ → Type 0
HasNoDigitInFront text = ¬ (IsAsciiDigit (slice_index text 0))
