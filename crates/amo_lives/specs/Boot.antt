-- The id that a machine gives each of its starts, as the system shows it.
use Rattle.std.specs.Prelude.{◌≡◌, ℕ, ◌<◌, ◌==◌, Bool, if◌then◌else◌, IsTrue, List, length, slice_index, codes}
use Rattle.amo_text.specs.Hexadecimal.{is_hex_digit}

-- the form of a UUID's text (RFC 9562, section 4), with an x for each digit
abbrev pub form : List ℕ
form = codes "xxxxxxxx-xxxx-xxxx-xxxx-xxxxxxxxxxxx"

-- whether a byte fits that of the form: a lower-case digit where that is an x, else the same byte
abbrev pub fits : ℕ → ℕ → Bool
fits of byte = if of == 120 then is_hex_digit byte else byte == of

-- a text of that form
abbrev pub IsBootId : List ℕ → Type 0
IsBootId text = (length text ≡ 36) × ((k : ℕ) → k < 36 → IsTrue (fits (slice_index form k) (slice_index text k)))
