-- The numbers of the faults.
use Rattle.std.specs.Prelude.{ℕ}
use Rattle.amo_packet.specs.Codes.{no_memory_code}
use Rattle.amo_world.specs.declared.fault.WorldFault.{WorldFault}
use Rattle.amo_world.specs.declared.fault.WorldFault.TheVariants.{NoMemory, WrongReply, Unsent, Repeat}

-- the number of a fault
abbrev pub fault_code : WorldFault → ℕ
fault_code NoMemory = no_memory_code
fault_code WrongReply = 21
fault_code Unsent = 22
fault_code Repeat = 23
