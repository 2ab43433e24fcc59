-- A client's lines: what their texts read as, and what they are called by.
use Rattle.std.specs.Prelude.{◌≡◌, ◌≢◌, ℕ, ◌<◌, ◌^◌, Bool, true, false, if◌then◌else◌, None, Result, Ok, Err, List, [], ◌∷◌, ◌++◌, length}
use Rattle.std.specs.Fmt.{decimal}
use Rattle.amo_packet.specs.Stream.{IsStream}
use Rattle.amo_text.specs.Hexadecimal.{hex}
use Rattle.amo_text.specs.Line.{Lacks}
use Rattle.amo_text.specs.Message.{IsMessage}
use Rattle.amo_lines.specs.declared.lines.LineFault.{LineFault}
use Rattle.amo_lines.specs.declared.lines.LineFault.TheVariants.{NoStream, Stream, TooLong, NoHex, TooLongLine}
use Rattle.amo_lines.specs.declared.lines.Spelling.{Spelling}
use Rattle.amo_lines.specs.declared.input.Line.{Line}
use Rattle.amo_lines.specs.declared.input.Line.TheVariants.{Put, Unread}
use Rattle.amo_lines.specs.Object.{Name, Names, ReadsObject}

-- a message, as a client spells it
abbrev pub spelt : Spelling → List ℕ → List ℕ
spelt spelling message = if spelling.hex then hex message else message

-- the text is a stream, a space and a message
pub record IsPut (spelling : Spelling) (text : List ℕ) (stream : ℕ) (message : List ℕ) : Type 0 where
  pub stream_is : IsStream stream
  pub message_is : IsMessage message
  pub text_is : text ≡ decimal stream ++ 32 ∷ spelt spelling message

-- what is wrong with a field that names no stream: it is no number, or this one
abbrev pub BlamesField : List ℕ → LineFault → Type 0
BlamesField field NoStream = (number : ℕ) → number < 2 ^ 64 → field ≢ decimal number
BlamesField field (Stream number) = field ≡ decimal number
BlamesField field _ = ⊥

-- what is wrong with a line's text: no number and space in front; a number that is no stream's; a message of so many bytes; one that is no HEX; the length
abbrev pub Blames : Spelling → List ℕ → LineFault → Type 0
Blames spelling text NoStream = (number : ℕ) (rest : List ℕ) → number < 2 ^ 64 → text ≢ decimal number ++ 32 ∷ rest
Blames spelling text (Stream number) = (rest : List ℕ) × (text ≡ decimal number ++ 32 ∷ rest) × ¬ (IsStream number)
Blames spelling text (TooLong count) = (stream : ℕ) × (rest : List ℕ) × (text ≡ decimal stream ++ 32 ∷ rest) × (spelling.hex ≡ false) × (count ≡ length rest) × (1024 < count)
Blames spelling text NoHex = (stream : ℕ) × (rest : List ℕ) × (text ≡ decimal stream ++ 32 ∷ rest) × (spelling.hex ≡ true) × ((m : List ℕ) → IsMessage m → rest ≢ hex m)
Blames spelling text TooLongLine = 4096 < length text
Blames spelling text _ = ⊥

-- the text is no stream and message, for this reason
pub record IsNoPut (spelling : Spelling) (text : List ℕ) (fault : LineFault) : Type 0 where
  pub none : (stream : ℕ) (message : List ℕ) → ¬ (IsPut spelling text stream message)
  pub blamed : Blames spelling text fault

-- what a line's text reads as, without its end: a message on a stream, or nothing
abbrev pub ReadsPlain : Spelling → List ℕ → Result (ℕ × List ℕ) LineFault → Type 0
ReadsPlain spelling text (Ok (stream, message)) = IsPut spelling text stream message
ReadsPlain spelling text (Err fault) = IsNoPut spelling text fault

-- the same where it is a JSON object, or not
abbrev pub ReadsBy : Bool → Spelling → List ℕ → Result (ℕ × List ℕ) LineFault → Type 0
ReadsBy true spelling text read = ReadsObject text read
ReadsBy false spelling text read = ReadsPlain spelling text read

abbrev pub ReadsAs : Spelling → List ℕ → Result (ℕ × List ℕ) LineFault → Type 0
ReadsAs spelling text read = ReadsBy spelling.json spelling text read

-- the id of a line that reads so, where it is a JSON object; else it has none
abbrev pub NamesBy : Bool → List ℕ → Result (ℕ × List ℕ) LineFault → Name → Type 0
NamesBy true text read id = Names text read id
NamesBy false text read id = id ≡ None

-- what a line was read as, and its id
abbrev pub read_of : Line → Result (ℕ × List ℕ) LineFault
read_of (Put stream named) = Ok (stream, named.message)
read_of (Unread fault id) = Err fault

abbrev pub id_by : Line → Name
id_by (Put stream named) = named.id
id_by (Unread fault id) = id

-- the text is that of these lines, each with its end
abbrev pub AreLines : Spelling → List ℕ → List Line → Type 0
AreLines spelling text [] = text ≡ []
AreLines spelling text (line ∷ lines) = (front more : List ℕ) × (text ≡ front ++ 10 ∷ more) × Lacks 10 front × ReadsAs spelling front (read_of line) × AreLines spelling more lines
