-- Strings and messages in JSON (RFC 8259, section 7).
use Rattle.std.specs.Prelude.{ℕ, ◌==◌, ◌||◌, ◌&&◌, Bool, not, nat_lt, if◌then◌else◌, List, [], ◌∷◌, ◌++◌, codes}
use Rattle.std.specs.Char.{is_ascii_control}
use Rattle.std.specs.List.{flat_map, list_any}
use Rattle.std.specs.Str.{chars, is_utf8}
use Rattle.amo_text.specs.Hexadecimal.{hex}

-- a byte of a text in a string: quotes, backslashes and control characters have escapes
abbrev pub escaped : ℕ → List ℕ
escaped byte =
    if (byte == 34) || (byte == 92) then (92 ∷ byte ∷ [])
    else (if nat_lt byte 32 then (codes "\\u00" ++ hex (byte ∷ [])) else (byte ∷ []))

-- a string
abbrev pub quoted : List ℕ → List ℕ
quoted text = codes "\"" ++ flat_map escaped text ++ codes "\""

-- whether a message is shown as a text: it is UTF-8, and has no control character of one byte
abbrev pub is_text : List ℕ → Bool
is_text message = is_utf8 message && not (list_any is_ascii_control (chars message))

-- the member of a message: its text, if it is one, and else its bytes in HEX
abbrev pub message_member : List ℕ → List ℕ
message_member message = if is_text message then (codes "\"text\":" ++ quoted message) else (codes "\"hex\":\"" ++ hex message ++ codes "\"")
