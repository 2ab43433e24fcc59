-- A client's line that is a JSON object.
use Rattle.std.specs.Prelude.{◌≡◌, ◌≢◌, ℕ, ◌<◌, ◌≤◌, ◌^◌, Bool, true, false, ◌&&◌, ◌||◌, nat_le, if◌then◌else◌, ◌⊎◌, Option, Some, None, option_and_then, Result, Ok, Err, List, codes, length}
use Rattle.std.specs.Fmt.{decimal}
use Rattle.std.specs.Str.{IsUtf8, bytes_eq}
use Rattle.json.specs.Json.{Json, Members, no_members, member, document}
use Rattle.json.specs.Find.{get, as_number, as_object, as_str}
use Rattle.json.specs.Strict.{HasUniqueKeys}
use Rattle.amo_packet.specs.Stream.{IsStream}
use Rattle.amo_text.specs.Hexadecimal.{hex}
use Rattle.amo_text.specs.Message.{IsMessage}
use Rattle.amo_lines.specs.declared.lines.LineFault.{LineFault}
use Rattle.amo_lines.specs.declared.lines.LineFault.TheVariants.{Stream, TooLong, NoHex, TooLongLine, NoJson, NoString, NoObject, Twice, Unknown, NoText, OneMessage, NoMessage, NoId, LongId, NoNumber}

-- a name that a client gives to its line, if it gives one
abbrev pub Name : Type 0
Name = Option (List ℕ)

-- the names of members
abbrev pub is_member : List ℕ → Bool
is_member name = bytes_eq name (codes "stream") || (bytes_eq name (codes "id") || (bytes_eq name (codes "text") || bytes_eq name (codes "hex")))

-- whether all members are such
abbrev pub are_members : Members → Bool
are_members no_members = true
are_members (member name value more) = is_member name && are_members more

-- a name of at most 64 bytes
abbrev pub if_short : List ℕ → Name
if_short name = if nat_le (length name) 64 then Some name else None

-- the id in an object: a string that is short enough
abbrev pub id_of : Json → Name
id_of value = option_and_then if_short (option_and_then as_str (get (codes "id") value))

-- the id in a line, if it is JSON
abbrev pub id_in : List ℕ → Name
id_in text = option_and_then id_of (document text)

-- there is none, or it is a string that is short enough
abbrev pub MayName : Option Json → Type 0
MayName None = Unit {0}
MayName (Some id) = (name : List ℕ) × (as_str id ≡ Some name) × (length name ≤ 64)

-- the message of an object: its text, or its bytes in HEX, and one of the two
abbrev pub TellsMessage : Option Json → Option Json → List ℕ → Type 0
TellsMessage (Some text) None message = as_str text ≡ Some message
TellsMessage None (Some bytes) message = as_str bytes ≡ Some (hex message)
TellsMessage _ _ message = ⊥

-- the value is an object that puts this message on this stream
pub record IsPutValue (value : Json) (stream : ℕ) (message : List ℕ) : Type 0 where
  pub members : Members
  pub object_is : as_object value ≡ Some members
  pub known : are_members members ≡ true
  pub named : MayName (get (codes "id") value)
  pub stream_is : IsStream stream
  pub numbered : option_and_then as_number (get (codes "stream") value) ≡ Some (decimal stream)
  pub message_is : IsMessage message
  pub told : TellsMessage (get (codes "text") value) (get (codes "hex") value) message

-- what is wrong with a number that is that of no stream: it is no decimal of 64 bits, or this one
abbrev pub BlamesNumber : List ℕ → LineFault → Type 0
BlamesNumber digits NoNumber = (stream : ℕ) → stream < 2 ^ 64 → digits ≢ decimal stream
BlamesNumber digits (Stream stream) = digits ≡ decimal stream
BlamesNumber digits _ = ⊥

-- what is wrong with a stream: it is not there, is no number, or that of no stream
abbrev pub BlamesStream : Option (List ℕ) → LineFault → Type 0
BlamesStream None NoNumber = Unit {0}
BlamesStream None _ = ⊥
BlamesStream (Some digits) fault = BlamesNumber digits fault × ((stream : ℕ) → IsStream stream → digits ≢ decimal stream)

-- what a text reads as: a message, or no string, or too many bytes
abbrev pub ReadsText : Json → Result (List ℕ) LineFault → Type 0
ReadsText text (Ok message) = IsMessage message × (as_str text ≡ Some message)
ReadsText text (Err NoText) = as_str text ≡ None
ReadsText text (Err (TooLong count)) = (message : List ℕ) × (as_str text ≡ Some message) × (count ≡ length message) × (1024 < count)
ReadsText text (Err _) = ⊥

-- what bytes in HEX read as: a message, or none
abbrev pub ReadsHex : Json → Result (List ℕ) LineFault → Type 0
ReadsHex bytes (Ok message) = IsMessage message × (as_str bytes ≡ Some (hex message))
ReadsHex bytes (Err NoHex) = (message : List ℕ) → IsMessage message → as_str bytes ≢ Some (hex message)
ReadsHex bytes (Err _) = ⊥

-- what the text and the HEX of an object read as: one of the two is a message, or what is wrong with it; or there is none, or two
abbrev pub ReadsMessage : Option Json → Option Json → Result (List ℕ) LineFault → Type 0
ReadsMessage (Some text) None read = ReadsText text read
ReadsMessage None (Some bytes) read = ReadsHex bytes read
ReadsMessage None None (Err NoMessage) = Unit {0}
ReadsMessage (Some text) (Some bytes) (Err OneMessage) = Unit {0}
ReadsMessage _ _ _ = ⊥

-- what an id reads as: there is none, or it is a string that is short enough; or what is wrong with it
abbrev pub BlamesId : Option Json → LineFault → Type 0
BlamesId (Some id) NoId = as_str id ≡ None
BlamesId (Some id) (LongId count) = (name : List ℕ) × (as_str id ≡ Some name) × (count ≡ length name) × (64 < count)
BlamesId _ _ = ⊥

-- what is wrong with the members of an object: it is none, or has another one
abbrev pub BlamesMembers : Option Members → LineFault → Type 0
BlamesMembers None NoObject = Unit {0}
BlamesMembers (Some members) Unknown = are_members members ≡ false
BlamesMembers _ _ = ⊥

-- what is wrong with a value: its members, its id, its stream or its message
abbrev pub BlamesValue : Json → LineFault → Type 0
BlamesValue value fault =
    BlamesMembers (as_object value) fault ⊎ BlamesId (get (codes "id") value) fault ⊎ BlamesStream (option_and_then as_number (get (codes "stream") value)) fault
    ⊎ ReadsMessage (get (codes "text") value) (get (codes "hex") value) (Err fault)

-- what a value reads as: a message on a stream, or why it is none
abbrev pub ReadsValue : Json → Result (ℕ × List ℕ) LineFault → Type 0
ReadsValue value (Ok (stream, message)) = IsPutValue value stream message
ReadsValue value (Err fault) = BlamesValue value fault

-- the text is JSON, no object of which has a member twice, and reads as its value does
abbrev pub ReadsJson : List ℕ → Result (ℕ × List ℕ) LineFault → Type 0
ReadsJson text read = (value : Json) × (document text ≡ Some value) × HasUniqueKeys value × ReadsValue value read

-- what a text reads as: it is no JSON in UTF-8, has a member twice, is too long; or what its value reads as
abbrev pub ReadsObject : List ℕ → Result (ℕ × List ℕ) LineFault → Type 0
ReadsObject text (Err NoJson) = IsUtf8 text → document text ≡ None
ReadsObject text (Err NoString) = document text ≡ None
ReadsObject text (Err Twice) = (value : Json) × (document text ≡ Some value) × ¬ (HasUniqueKeys value)
ReadsObject text (Err TooLongLine) = 4096 < length text
ReadsObject text (Err fault) = ReadsJson text (Err fault)
ReadsObject text (Ok read) = ReadsJson text (Ok read)

-- the id that a line has which reads so: that of its object, if it is one
abbrev pub Names : List ℕ → Result (ℕ × List ℕ) LineFault → Name → Type 0
Names text (Err NoJson) name = name ≡ None
Names text (Err NoString) name = name ≡ None
Names text (Err Twice) name = name ≡ None
Names text (Err TooLongLine) name = name ≡ None
Names text (Err fault) name = name ≡ id_in text
Names text (Ok read) name = name ≡ id_in text
