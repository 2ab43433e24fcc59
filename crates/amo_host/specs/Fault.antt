-- The numbers of the faults.
use Rattle.std.specs.Prelude.{ℕ}
use Rattle.amo_packet.specs.Codes.{no_memory_code}
use Rattle.amo_book.specs.Fault.{busy_code}
use Rattle.amo_host.specs.declared.fault.PumpFault.{PumpFault}
use Rattle.amo_host.specs.declared.fault.PumpFault.TheVariants as pump_fault
use Rattle.amo_host.specs.declared.fault.NewPumpFault.{NewPumpFault}
use Rattle.amo_host.specs.declared.fault.NewPumpFault.TheVariants as new_fault
use Rattle.amo_host.specs.declared.fault.DivideFault.{DivideFault}
use Rattle.amo_host.specs.declared.fault.DivideFault.TheVariants as divide_fault

-- the number of each fault of a turn
abbrev pub pump_code : PumpFault → ℕ
pump_code pump_fault.NoMemory = no_memory_code
pump_code pump_fault.Busy = busy_code
pump_code pump_fault.NoWord = 51

-- the number of each fault of a new pump
abbrev pub new_pump_code : {W : Type 0} → NewPumpFault W → ℕ
new_pump_code (new_fault.NoMemory charges words) = no_memory_code
new_pump_code (new_fault.Limits charges words) = 31

-- the number of each fault of a division
abbrev pub divide_code : {W : Type 0} → DivideFault W → ℕ
divide_code (divide_fault.NoMemory charges words) = no_memory_code
divide_code (divide_fault.Limits charges words) = 31
