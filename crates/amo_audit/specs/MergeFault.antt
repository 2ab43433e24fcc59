-- Why two lists of events were not merged.
use Rattle.std.specs.Prelude.{ℕ}
use Rattle.amo_audit.specs.declared.merge_fault.MergeFault.{MergeFault}
use Rattle.amo_audit.specs.declared.merge_fault.MergeFault.TheVariants.{NoMemory, Stuck, Shared}

-- the number of a fault
abbrev pub fault_code : MergeFault → ℕ
fault_code NoMemory = 9
fault_code Stuck = 61
fault_code Shared = 62
