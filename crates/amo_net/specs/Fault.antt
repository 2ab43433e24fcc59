-- The number of each fault.
use Rattle.std.specs.Prelude.{ℕ}
use Rattle.amo_packet.specs.Codes.{no_memory_code}
use Rattle.amo_net.specs.declared.fault.LinkFault.{LinkFault}
use Rattle.amo_net.specs.declared.fault.LinkFault.TheVariants.{Device, NoMemory}

-- 71 for the device, 9 for no memory
abbrev pub fault_code : LinkFault → ℕ
fault_code Device = 71
fault_code NoMemory = no_memory_code
