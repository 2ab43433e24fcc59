-- The fault of a command that a fault of one of its parts comes to.
use Rattle.std.specs.Prelude.{◌≡◌, ℕ, List, Option, Some, None, string_bytes}
use Rattle.amo_journal.specs.declared.fault.JournalFault.{JournalFault}
use Rattle.amo_journal.specs.declared.fault.JournalFault.TheVariants as journal
use Rattle.amo_disk.specs.declared.fault.Cause.{Cause}
use Rattle.amo_replay.specs.declared.fault.ToolFault.{ToolFault}
use Rattle.amo_replay.specs.declared.fault.ToolFault.TheVariants as replay
use Rattle.amo_run.specs.declared.fault.RunFault.{RunFault}
use Rattle.amo_run.specs.declared.fault.RunFault.TheVariants as run
use Rattle.amo_offline.specs.declared.fault.OfflineFault.{OfflineFault}
use Rattle.amo_offline.specs.declared.fault.OfflineFault.TheVariants.{NoMemory, Busy, Device, File, Output, Socket, Disk}

-- it names this file, unless there was no memory for the name, or no cause
abbrev pub IsOfFile : List ℕ → OfflineFault → Type 0
IsOfFile file (File name cause) = string_bytes name ≡ file
IsOfFile file Device = Unit {0}
IsOfFile file _ = ⊥

-- it names standard output
abbrev pub IsOfOutput : OfflineFault → Type 0
IsOfOutput (Output cause) = Unit {0}
IsOfOutput _ = ⊥

-- it names this file of a host, and this cause, unless there was no memory for the name
abbrev pub IsOfDisk : List ℕ → Cause → OfflineFault → Type 0
IsOfDisk file why (Disk name cause) = (string_bytes name ≡ file) × (cause ≡ why)
IsOfDisk file why NoMemory = Unit {0}
IsOfDisk file why _ = ⊥

-- of a write on standard output, with its cause where there is one
abbrev pub output_fault : Option Cause → OfflineFault
output_fault (Some cause) = Output cause
output_fault None = Device

-- of a replay
abbrev pub replay_fault : ToolFault → Option Cause → OfflineFault
replay_fault replay.NoMemory cause = NoMemory
replay_fault replay.Busy cause = Busy
replay_fault replay.Device cause = output_fault cause

-- of a journal that was to be told of
abbrev pub report_fault : JournalFault → Option Cause → OfflineFault
report_fault journal.NoMemory cause = NoMemory
report_fault _ cause = output_fault cause

-- of a run
abbrev pub run_fault : RunFault → OfflineFault
run_fault run.NoMemory = NoMemory
run_fault run.Device = Socket
