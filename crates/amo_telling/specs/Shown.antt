-- The lines that are written of messages.
use Rattle.std.specs.Prelude.{ℕ, Bool, true, false, not, ◌==◌, ◌||◌, ◌&&◌, if◌then◌else◌, List, [], ◌∷◌, ◌++◌, codes}
use Rattle.std.specs.Char.{is_ascii_control, is_control}
use Rattle.std.specs.List.{flat_map, list_any}
use Rattle.std.specs.Str.{chars, is_utf8}
use Rattle.std.specs.Fmt.{decimal}
use Rattle.amo_outcomes.specs.declared.outcome.Outcome.TheVariants.{Got, Gone, Open}
use Rattle.amo_outcomes.specs.declared.sender_outcome.SenderOutcome.TheVariants as told
use Rattle.amo_telling.specs.declared.put_outcome.PutOutcome.{PutOutcome}
use Rattle.amo_telling.specs.declared.put_outcome.PutOutcome.TheVariants.{ByBoth, BySender, InDoubt}
use Rattle.amo_text.specs.Hexadecimal.{hex}

-- whether a character is not shown as it is: on a line a control character, but for a tab; in an object the same of the characters of one byte, and a tab
abbrev pub is_hidden : Bool → ℕ → Bool
is_hidden json c = if json then is_ascii_control c else (is_control c && not (c == 9))

-- whether a message is shown as a text: it is UTF-8, and has no such character
abbrev pub is_text : Bool → List ℕ → Bool
is_text json message = is_utf8 message && not (list_any (is_hidden json) (chars message))

-- a byte of a text, as an object spells it
abbrev pub escaped : ℕ → List ℕ
escaped byte = if (byte == 34) || (byte == 92) then (92 ∷ byte ∷ []) else (byte ∷ [])

-- a message that is shown as a text, and one that is shown in HEX
abbrev pub text_shown : Bool → List ℕ → List ℕ
text_shown json message = if json then codes "\"text\":\"" ++ flat_map escaped message ++ codes "\"" else message

abbrev pub hex_shown : Bool → List ℕ → List ℕ
hex_shown json message = if json then codes "\"hex\":\"" ++ hex message ++ codes "\"" else (codes "0x" ++ hex message)

abbrev pub message_shown : Bool → List ℕ → List ℕ
message_shown json message = if is_text json message then text_shown json message else hex_shown json message

-- the front of a line: its number and its stream
abbrev pub line_front : Bool → ℕ → ℕ → List ℕ
line_front json number stream = if json then codes "{\"number\":" ++ decimal number ++ codes ",\"stream\":" ++ decimal stream ++ codes "," else (decimal number ++ codes " " ++ decimal stream ++ codes " ")

-- and the rest of it, from its message on
abbrev pub line_end : Bool → List ℕ → List ℕ
line_end json message = message_shown json message ++ (if json then codes "}\n" else codes "\n")

-- what happened, in an object
abbrev pub event_shown : Bool → List ℕ
event_shown json = if json then codes "\"event\":\"got\"," else []

-- the line of a message that was got
abbrev pub got_line : Bool → ℕ → ℕ → List ℕ → List ℕ
got_line json number stream message = line_front json number stream ++ event_shown json ++ line_end json message

-- what is told of a put, as a field of a line
abbrev pub outcome_field : PutOutcome → List ℕ
outcome_field (ByBoth Got) = codes "got "
outcome_field (ByBoth Gone) = codes "gone "
outcome_field (ByBoth Open) = codes "open "
outcome_field (BySender told.Got) = codes "got "
outcome_field (BySender told.Gone) = codes "gone "
outcome_field (BySender told.Open) = codes "open "
outcome_field (BySender (told.Unknown true)) = codes "unknown,settled "
outcome_field (BySender (told.Unknown false)) = codes "unknown "
outcome_field InDoubt = codes "unknown "

-- and as members of an object, which say where a sender's journal alone tells it
abbrev pub outcome_members : PutOutcome → List ℕ
outcome_members (ByBoth Got) = codes "\"outcome\":\"got\","
outcome_members (ByBoth Gone) = codes "\"outcome\":\"gone\","
outcome_members (ByBoth Open) = codes "\"outcome\":\"open\","
outcome_members (BySender told.Got) = codes "\"outcome\":\"got\",\"by\":\"sender\","
outcome_members (BySender told.Gone) = codes "\"outcome\":\"gone\",\"by\":\"sender\","
outcome_members (BySender told.Open) = codes "\"outcome\":\"open\",\"by\":\"sender\","
outcome_members (BySender (told.Unknown true)) = codes "\"outcome\":\"unknown\",\"settled\":true,\"by\":\"sender\","
outcome_members (BySender (told.Unknown false)) = codes "\"outcome\":\"unknown\",\"settled\":false,\"by\":\"sender\","
outcome_members InDoubt = codes "\"outcome\":\"unknown\",\"settled\":false,"

-- the line of a message that was put
abbrev pub outcome_line : Bool → ℕ → ℕ → PutOutcome → List ℕ → List ℕ
outcome_line json number stream outcome message = line_front json number stream ++ (if json then outcome_members outcome else outcome_field outcome) ++ line_end json message
