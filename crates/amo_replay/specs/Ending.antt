-- How the program tells a replay's ending.
use Rattle.std.specs.Prelude.{ℕ, List, [], ◌∷◌, ◌++◌, codes}
use Rattle.std.specs.Fmt.{decimal}
use Rattle.amo_packet.specs.Codes.{no_memory_code}
use Rattle.amo_book.specs.declared.fault.DriveFault.{DriveFault}
use Rattle.amo_book.specs.declared.fault.DriveFault.TheVariants as drive
use Rattle.amo_book.specs.Fault.{busy_code}
use Rattle.amo_replay.specs.declared.endings.Ending.{Ending}
use Rattle.amo_replay.specs.declared.endings.Ending.TheVariants.{Done, Malformed, Unsent, Repeat}
use Rattle.amo_replay.specs.declared.fault.ToolFault.{ToolFault}
use Rattle.amo_replay.specs.declared.fault.ToolFault.TheVariants.{NoMemory, Busy, Device}

-- the line of a fault at a line
abbrev pub fault_at : ℕ → List ℕ → List ℕ
fault_at line fault = codes "amo: line " ++ (decimal line ++ (fault ++ 10 ∷ []))

-- the line of a fault, or nothing
abbrev pub fault_line : Ending → List ℕ
fault_line Done = []
fault_line (Malformed line) = fault_at line (codes ": malformed")
fault_line (Unsent line) = fault_at line (codes ": unsent")
fault_line (Repeat line) = fault_at line (codes ": repeat")

-- the status of an ending
abbrev pub status_of : Ending → ℕ
status_of Done = 0
status_of (Malformed line) = 2
status_of (Unsent line) = 3
status_of (Repeat line) = 3

-- the number of a fault
abbrev pub fault_code : ToolFault → ℕ
fault_code NoMemory = no_memory_code
fault_code Busy = busy_code
fault_code Device = 71

-- the fault that a fault of the book comes to
abbrev pub drive_fault : DriveFault → ToolFault
drive_fault drive.Busy = Busy
drive_fault drive.NoMemory = NoMemory
