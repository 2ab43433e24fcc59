-- How the lines are spelt that clients are shown.
use Rattle.std.specs.Prelude.{ℕ, Bool, true, false, not, ◌==◌, ◌||◌, ◌&&◌, nat_lt, if◌then◌else◌, Some, None, List, [], ◌∷◌, ◌++◌, codes}
use Rattle.std.specs.Char.{is_ascii_control, is_control}
use Rattle.std.specs.List.{flat_map, list_any}
use Rattle.std.specs.Str.{chars, is_utf8}
use Rattle.std.specs.Fmt.{decimal}
use Rattle.amo_text.specs.Hexadecimal.{hex}
use Rattle.amo_lines.specs.Object.{Name}
use Rattle.amo_lines.specs.declared.lines.Spelling.{Spelling}
use Rattle.amo_lines.specs.declared.lines.Word.{Word}
use Rattle.amo_lines.specs.declared.lines.Word.TheVariants as word

-- what became of a message put to a stream, in a word
abbrev pub word_text : Word → List ℕ
word_text word.Yes = codes "yes"
word_text word.No = codes "no"

-- a byte of a text, as an object spells it
abbrev pub escaped : ℕ → List ℕ
escaped byte = if (byte == 34) || (byte == 92) then (92 ∷ byte ∷ []) else (if nat_lt byte 32 then codes "\\u00" ++ hex (byte ∷ []) else (byte ∷ []))

-- the member that tells an id, if there is one
abbrev pub id_member : Name → List ℕ
id_member None = []
id_member (Some id) = codes ",\"id\":\"" ++ flat_map escaped id ++ codes "\""

-- the front of an object about a stream, up to what happened
abbrev pub object_front : ℕ → Name → List ℕ
object_front stream id = codes "{\"stream\":" ++ decimal stream ++ id_member id ++ codes ",\"event\":\""

-- the line that tells that a message was put, by this line of the journal
abbrev pub ok_line : Spelling → ℕ → Name → ℕ → List ℕ
ok_line spelling stream id line = if spelling.json then object_front stream id ++ codes "ok\",\"line\":" ++ decimal line ++ codes "}\n" else (decimal stream ++ codes " ok\n")

-- the line that tells what became of one
abbrev pub word_line : Spelling → ℕ → Name → Word → List ℕ
word_line spelling stream id w = if spelling.json then object_front stream id ++ word_text w ++ codes "\"}\n" else (decimal stream ++ codes " " ++ word_text w ++ codes "\n")

-- the line that tells that what became of earlier messages of a stream, of which it was not known, is settled
abbrev pub settled_line : Spelling → ℕ → List ℕ
settled_line spelling stream = if spelling.json then object_front stream None ++ codes "settled\"}\n" else (decimal stream ++ codes " settled\n")

-- a client's line that is none: its id, its number and why
pub record Refused : Type 0 where
  pub id : Name
  pub input : ℕ
  pub reason : List ℕ

-- the front of the object that tells so, up to what happened
abbrev pub refused_front : ℕ → Name → List ℕ
refused_front input id = codes "{\"input\":" ++ decimal input ++ id_member id

-- the line that tells so
abbrev pub refused_line : Refused → List ℕ
refused_line refused = refused_front refused.input refused.id ++ codes ",\"event\":\"refused\",\"reason\":\"" ++ flat_map escaped refused.reason ++ codes "\"}\n"

-- the word about messages that were got, or of which that is not known
abbrev pub word_of : Bool → Word
word_of true = word.Yes
word_of false = word.No

-- the front of the object that shows a message which was got by this line of the journal
abbrev pub got_front : ℕ → ℕ → List ℕ
got_front stream line = codes "{\"number\":" ++ decimal line ++ codes ",\"stream\":" ++ decimal stream ++ codes ",\"event\":\"got\","

-- the line of a message that is shown as a text
abbrev pub text_line : Spelling → ℕ → ℕ → List ℕ → List ℕ
text_line spelling stream line message =
    if spelling.json then got_front stream line ++ codes "\"text\":\"" ++ flat_map escaped message ++ codes "\"}\n" else (decimal stream ++ codes " " ++ message ++ codes "\n")

-- the line of a message that is shown in HEX
abbrev pub hex_line : Spelling → ℕ → ℕ → List ℕ → List ℕ
hex_line spelling stream line message = if spelling.json then got_front stream line ++ codes "\"hex\":\"" ++ hex message ++ codes "\"}\n" else (decimal stream ++ codes " 0x" ++ hex message ++ codes "\n")

-- whether a character is not shown as it is: on a line a control character, but for a tab; in an object the same of the characters of one byte, and a tab
abbrev pub is_hidden : Bool → ℕ → Bool
is_hidden json c = if json then is_ascii_control c else (is_control c && not (c == 9))

-- whether a message is shown as a text: it is UTF-8, and has no such character
abbrev pub is_text : Bool → List ℕ → Bool
is_text json message = is_utf8 message && not (list_any (is_hidden json) (chars message))

-- what shows a message that was got by this line of the journal: its text, if it is one, and else HEX
abbrev pub message_line : Spelling → ℕ → ℕ → List ℕ → List ℕ
message_line spelling stream line message = if is_text spelling.json message then text_line spelling stream line message else hex_line spelling stream line message
