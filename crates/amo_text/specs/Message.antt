-- Messages that have a spelling.
use Rattle.std.specs.Prelude.{ℕ, List}
use Rattle.hex.specs.Hex.{IsBytes}
use Rattle.amo_packet.specs.Message.{IsShort}

-- bytes, no more than a message has
abbrev pub IsMessage : List ℕ → Type 0
IsMessage message = IsShort message × IsBytes message
