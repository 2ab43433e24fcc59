-- What reading the fields of one kind gives, whatever the stream before them is and whichever newer versions are known.
use Rattle.std.specs.Prelude.{◌≡◌, ◌≢◌, ◌<◌, ◌≤◌, ◌^◌, ◌⊎◌, ◌+◌, ℕ, List, ◌++◌, length, drop, Some, Result, Ok, Err}
use Rattle.byteorder.specs.Endian.{big_number}
use Rattle.amo_packet.specs.declared.fault.ReadFault.{ReadFault}
use Rattle.amo_packet.specs.declared.packet.Body.{Body}
use Rattle.amo_packet.specs.Message.{max_message}
use Rattle.amo_packet.specs.Packet.{body_of}
use Rattle.amo_packet.specs.Grammar.{header, Spells}
use Rattle.amo_packet.specs.Fault.{first_fault}

-- the header and the fields spell what was read, or have this first fault
abbrev pub IsReading : ℕ → ℕ → List ℕ → Result Body ReadFault → Type 0
IsReading version kind fields (Ok body) =
    (newest stream : ℕ) → version ≤ newest → stream < 2 ^ 32
    → Spells newest (header version kind stream ++ fields) (record { stream = stream; body = body_of body })
IsReading version kind fields (Err fault) =
    (newest stream : ℕ) → 1 ≤ version → version ≤ newest → first_fault newest (header version kind stream ++ fields) ≡ Some fault

-- the four bytes begin no packet of a kind that a reader of the versions up to the newest knows
pub record IsNoStart (newest start : ℕ) : Type 0 where
  pub needuid : start ≢ 0x414D0101
  pub accept : start ≢ 0x414D0102
  pub send : start ≢ 0x414D0103
  pub ack : start ≢ 0x414D0104
  pub cleanup : start ≢ 0x414D0105
  pub batch : (start ≢ 0x414D0206) ⊎ (newest < 2)

-- the fields of a send spell the message
pub record IsSent (fields message : List ℕ) : Type 0 where
  pub there : 10 ≤ length fields
  pub is : message ≡ drop 10 fields
  pub given : length message ≡ big_number 2 (drop 8 fields)
  pub short : length message ≤ max_message

-- the fields of a send spell none
abbrev pub IsUnsent : List ℕ → Type 0
IsUnsent fields = 10 ≤ length fields → big_number 2 (drop 8 fields) ≤ max_message → length fields ≢ 10 + big_number 2 (drop 8 fields)

-- what reading all of the bytes gives to a reader of the versions up to the newest, to whom the stream is known
abbrev pub IsReadingUpTo : ℕ → List ℕ → Result Body ReadFault → Type 0
IsReadingUpTo newest bytes (Ok body) = Spells newest bytes (record { stream = big_number 4 (drop 4 bytes); body = body_of body })
IsReadingUpTo newest bytes (Err fault) = first_fault newest bytes ≡ Some fault
