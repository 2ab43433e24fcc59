-- Schedules: lists of lines, and the bytes that spell them.
use Rattle.std.specs.Prelude.{◌≡◌, ℕ, ◌<◌, ◌^◌, Option, Some, None, List, [], ◌∷◌}
use Rattle.std.specs.Fmt.{decimal}
use Rattle.amo_packet.specs.Codes.{no_memory_code}
use Rattle.amo_packet.specs.Stream.{IsStream}
use Rattle.amo_text.specs.Act.{act_field}
use Rattle.amo_text.specs.declared.act.ActName.TheVariants as name
use Rattle.amo_text.specs.Hexadecimal.{hex}
use Rattle.amo_text.specs.Line.{line_of}
use Rattle.amo_text.specs.Items as items
use Rattle.amo_text.specs.Message.{IsMessage}
use Rattle.amo_text.specs.declared.items.LinesFault.{LinesFault}
use Rattle.amo_text.specs.declared.items.LinesFault.TheVariants as lines
use Rattle.amo_text.specs.Side.{letter_of}
use Rattle.amo_schedule.specs.declared.fault.ScheduleFault.{ScheduleFault}
use Rattle.amo_schedule.specs.declared.fault.ScheduleFault.TheVariants.{NoMemory, Malformed}
use Rattle.amo_schedule.specs.declared.line.ScheduleLine.{ScheduleLine}
use Rattle.amo_schedule.specs.declared.reader.LineText.{LineText}
use Rattle.amo_schedule.specs.declared.reader.LineText.TheVariants as form
use Rattle.amo_schedule.specs.declared.line.ScheduleLine.TheVariants.{Put, Get, Ack, Start, Batch, Resend, Deliver, Crash, Recover}

-- the fields of a line
abbrev pub fields_of : ScheduleLine → List (List ℕ)
fields_of (Put stream m) = act_field name.Put ∷ decimal stream ∷ hex m ∷ []
fields_of (Get stream) = act_field name.Get ∷ decimal stream ∷ []
fields_of (Ack stream) = act_field name.Ack ∷ decimal stream ∷ []
fields_of (Start stream word) = act_field name.Start ∷ decimal stream ∷ decimal word ∷ []
fields_of (Batch stream word) = act_field name.Batch ∷ decimal stream ∷ decimal word ∷ []
fields_of (Resend side stream) = act_field name.Resend ∷ letter_of side ∷ decimal stream ∷ []
fields_of (Deliver number word) = act_field name.Deliver ∷ decimal number ∷ decimal word ∷ []
fields_of (Crash side stream) = act_field name.Crash ∷ letter_of side ∷ decimal stream ∷ []
fields_of (Recover side stream) = act_field name.Recover ∷ letter_of side ∷ decimal stream ∷ []

-- a line, with its end
abbrev pub spelling_of : ScheduleLine → List ℕ
spelling_of line = line_of (fields_of line)

-- the lines that there are
abbrev pub InRange : ScheduleLine → Type 0
InRange (Put stream m) = IsStream stream × IsMessage m
InRange (Get stream) = IsStream stream
InRange (Ack stream) = IsStream stream
InRange (Start stream word) = IsStream stream × (word < 2 ^ 64)
InRange (Batch stream word) = IsStream stream × (word < 2 ^ 64)
InRange (Resend side stream) = IsStream stream
InRange (Deliver number word) = (number < 2 ^ 64) × (word < 2 ^ 64)
InRange (Crash side stream) = IsStream stream
InRange (Recover side stream) = IsStream stream

-- the bytes are these lines
abbrev pub SpellsSchedule : List ℕ → List ScheduleLine → Type 0
SpellsSchedule bytes lines = items.SpellsItems fields_of InRange bytes lines

-- the bytes are some lines
abbrev pub IsSchedule : List ℕ → Type 0
IsSchedule bytes = items.AreLines fields_of InRange bytes

-- the text, which lacks a line's end, is that of this line, or of none
abbrev pub ReadsAs : List ℕ → Option ScheduleLine → Type 0
ReadsAs text read = items.ReadsAs fields_of InRange text read

-- the same, where the message of a put stands in HEX
abbrev pub Parses : List ℕ → Option LineText → Type 0
Parses text (Some (form.Put stream digits)) = (m : List ℕ) × (digits.now ≡ hex m) × ReadsAs text (Some (Put stream m))
Parses text (Some (form.Other line)) = ReadsAs text (Some line)
Parses text None = ReadsAs text None

-- this line, counted from 1, is the first that is malformed
abbrev pub IsMalformedAt : List ℕ → ℕ → Type 0
IsMalformedAt bytes number = items.IsMalformedAt fields_of InRange bytes number

-- why the bytes are no schedule, unless memory ran out
abbrev pub Faults : List ℕ → ScheduleFault → Type 0
Faults bytes NoMemory = Unit {0}
Faults bytes (Malformed number) = IsMalformedAt bytes number

-- a fault of lines, as one of a schedule
abbrev pub fault_of : LinesFault → ScheduleFault
fault_of lines.NoMemory = NoMemory
fault_of (lines.Malformed number) = Malformed number

-- the number of a fault
abbrev pub fault_code : ScheduleFault → ℕ
fault_code NoMemory = no_memory_code
fault_code (Malformed number) = 63
