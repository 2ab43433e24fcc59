-- Why bytes are no journal, and why one was not written.
use Rattle.std.specs.Prelude.{ℕ, ◌+◌, List}
use Rattle.amo_journal.specs.declared.fault.JournalFault.{JournalFault}
use Rattle.amo_journal.specs.declared.fault.JournalFault.TheVariants.{NoMemory, Malformed, Gap, Device}
use Rattle.amo_journal.specs.declared.version.Version.{Version}
use Rattle.amo_journal.specs.Journal.{IsMalformedAt, HasGapAt, HasMalformed, HasGap}

-- the number of a fault
abbrev pub fault_code : JournalFault → ℕ
fault_code NoMemory = 9
fault_code (Malformed line) = 63
fault_code (Gap line) = 64
fault_code Device = 71

-- why the bytes are no journal, unless memory ran out
abbrev pub Faults : List ℕ → JournalFault → Type 0
Faults bytes NoMemory = Unit {0}
Faults bytes (Malformed line) = IsMalformedAt bytes line
Faults bytes (Gap line) = HasGapAt bytes line
Faults bytes Device = ⊥

-- why the bytes are no lines of events behind a heading, unless memory ran out
abbrev pub LinesFault : Version → List ℕ → JournalFault → Type 0
LinesFault version body NoMemory = Unit {0}
LinesFault version body (Malformed line) = HasMalformed version body line
LinesFault version body (Gap line) = HasGap version body line
LinesFault version body Device = ⊥

-- the line that a fault names, or 0
abbrev pub line_named : JournalFault → ℕ
line_named (Malformed line) = line
line_named (Gap line) = line
line_named _ = 0

-- the same fault, so many lines further on
abbrev pub further : ℕ → JournalFault → JournalFault
further lines (Malformed line) = Malformed (line + lines)
further lines (Gap line) = Gap (line + lines)
further lines fault = fault
