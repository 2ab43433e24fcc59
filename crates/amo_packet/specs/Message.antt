-- Messages, as contracts see them.
use Rattle.std.specs.Prelude.{ℕ, ◌≤◌, List, [], length, Option, None, Some}
use Rattle.std.specs.Global.{Vec}
use Rattle.amo_packet.specs.declared.message.MessageFault.{MessageFault}
use Rattle.amo_packet.specs.declared.message.MessageFault.TheVariants.{NoMemory, TooLong}
use Rattle.amo_packet.specs.Codes.{no_memory_code}

-- the greatest length of a message, in bytes
abbrev pub max_message : ℕ
max_message = 1024

-- the message keeps to its limit
abbrev pub IsShort : List ℕ → Type 0
IsShort message = length message ≤ max_message

-- no vector stands for no bytes
abbrev pub bytes_of : Option (Vec ℕ) → List ℕ
bytes_of None = []
bytes_of (Some v) = v.items

-- the number of a fault
abbrev pub fault_code : MessageFault → ℕ
fault_code NoMemory = no_memory_code
fault_code TooLong = 19
