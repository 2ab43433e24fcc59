-- The number of each fault of the queue.
use Rattle.std.specs.Prelude.{ℕ}
use Rattle.amo_object.specs.declared.queue.QueueFault.{QueueFault}
use Rattle.amo_object.specs.declared.queue.QueueFault.TheVariants.{NotAllowed, NoMemory}

-- 1 for what is not allowed, 9 for no memory
abbrev pub fault_code : QueueFault → ℕ
fault_code NotAllowed = 1
fault_code NoMemory = 9
