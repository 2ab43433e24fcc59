-- The number of each fault.
use Rattle.std.specs.Prelude.{ℕ}
use Rattle.amo_window.specs.declared.fault.WindowFault.{WindowFault}
use Rattle.amo_window.specs.declared.fault.WindowFault.TheVariants.{Limits, NoMemory}

-- 31 for what is not allowed, 9 for no memory
abbrev pub fault_code : WindowFault → ℕ
fault_code Limits = 31
fault_code NoMemory = 9
