-- The numbers of the faults of a run.
use Rattle.std.specs.Prelude.{ℕ}
use Rattle.amo_packet.specs.Codes.{no_memory_code}
use Rattle.amo_run.specs.declared.fault.RunFault.{RunFault}
use Rattle.amo_run.specs.declared.fault.RunFault.TheVariants.{Device, NoMemory}

-- 71 for a socket, 9 for memory or a thread
abbrev pub run_code : RunFault → ℕ
run_code Device = 71
run_code NoMemory = no_memory_code
