-- What is wrong with bytes that spell no packet: the first fault in a fixed order.
use Rattle.std.specs.Prelude.{ℕ, zero, suc, ◌+◌, ◌==◌, nat_lt, nat_le, Bool, not, ◌&&◌, ◌||◌, if◌then◌else◌, List, [], ◌∷◌, length, drop, slice_index, Option, None, Some}
use Rattle.byteorder.specs.Endian.{big_number}
use Rattle.amo_packet.specs.declared.fault.ReadFault.{ReadFault}
use Rattle.amo_packet.specs.declared.fault.ReadFault.TheVariants.{Short, Magic, Version, Kind, Flag, Length, Long, Count}
use Rattle.amo_packet.specs.Message.{max_message}
use Rattle.amo_packet.specs.Batch.{max_batch}

-- the number of a fault
abbrev pub fault_code : ReadFault → ℕ
fault_code Short = 11
fault_code Magic = 12
fault_code Version = 13
fault_code Kind = 14
fault_code Flag = 15
fault_code Length = 16
fault_code Long = 17
fault_code Count = 20

-- the number of what writing refuses
abbrev pub no_room_code : ℕ
no_room_code = 18

-- the version that the third byte names
abbrev pub version_byte : List ℕ → ℕ
version_byte bytes = slice_index bytes 2

-- the kind that the fourth byte names
abbrev pub kind_byte : List ℕ → ℕ
kind_byte bytes = slice_index bytes 3

-- whether a reader of the versions up to the newest knows one
abbrev pub is_known : ℕ → ℕ → Bool
is_known newest version = nat_le 1 version && nat_le version newest

-- whether a version has a kind: version 1 has kinds 1 to 5, and version 2 has kind 6
abbrev pub has_kind : ℕ → ℕ → Bool
has_kind version kind = (version == 1 && (nat_le 1 kind && nat_le kind 5)) || (version == 2 && kind == 6)

-- how many bytes a packet of a kind has before its messages: 16, 24, 18, 17, 16 and 17
abbrev pub fixed_length : ℕ → ℕ
fixed_length kind = if kind == 2 then 24 else if kind == 3 then 18 else if kind == 4 then 17 else if kind == 6 then 17 else 16

-- how many bytes a message takes beside them: its own, and in a batch the two of its length
abbrev pub length_in : ℕ → List ℕ → ℕ
length_in kind message = if kind == 6 then 2 + length message else length message

-- the length that a send gives for its message
abbrev pub given_length : List ℕ → ℕ
given_length bytes = big_number 2 (drop 16 bytes)

-- how many bytes the packet has that begins so, where it is no batch
abbrev pub whole_length : List ℕ → ℕ
whole_length bytes = fixed_length (kind_byte bytes) + (if kind_byte bytes == 3 then given_length bytes else 0)

-- the number of messages that a batch gives
abbrev pub given_count : List ℕ → ℕ
given_count bytes = slice_index bytes 16

-- the tests for as many messages in turn, each behind its length, and for what follows the last
abbrev pub message_faults : ℕ → List ℕ → List (ReadFault × Bool)
message_faults zero bytes = (Long, nat_lt 0 (length bytes)) ∷ []
message_faults (suc n) bytes =
    (Short, nat_lt (length bytes) 2)
    ∷ (Length, nat_lt max_message (big_number 2 bytes))
    ∷ (Short, nat_lt (length bytes) (2 + big_number 2 bytes))
    ∷ message_faults n (drop (big_number 2 bytes) (drop 2 bytes))

-- the tests for the fields of a batch
abbrev pub batch_faults : List ℕ → List (ReadFault × Bool)
batch_faults bytes =
    (Count, not (nat_le 1 (given_count bytes) && nat_le (given_count bytes) max_batch))
    ∷ message_faults (given_count bytes) (drop 17 bytes)

-- the tests for the fields of every other kind
abbrev pub field_faults : List ℕ → List (ReadFault × Bool)
field_faults bytes =
    (Flag, kind_byte bytes == 4 && nat_lt 1 (slice_index bytes 16))
    ∷ (Length, kind_byte bytes == 3 && nat_lt max_message (given_length bytes))
    ∷ (Short, nat_lt (length bytes) (whole_length bytes))
    ∷ (Long, nat_lt (whole_length bytes) (length bytes))
    ∷ []

-- each fault and the test for it, in the order of faults, for a reader of the versions up to the newest
abbrev pub fault_table : ℕ → List ℕ → List (ReadFault × Bool)
fault_table newest bytes =
    (Short, nat_lt (length bytes) 8)
    ∷ (Magic, not (slice_index bytes 0 == 0x41 && slice_index bytes 1 == 0x4D))
    ∷ (Version, not (is_known newest (version_byte bytes)))
    ∷ (Kind, not (has_kind (version_byte bytes) (kind_byte bytes)))
    ∷ (Short, nat_lt (length bytes) (fixed_length (kind_byte bytes)))
    ∷ (if kind_byte bytes == 6 then batch_faults bytes else field_faults bytes)

-- the first fault whose test says yes
abbrev pub first_of : List (ReadFault × Bool) → Option ReadFault
first_of [] = None
first_of (row ∷ rows) = if row.1 then Some row.0 else first_of rows

-- what is wrong with the bytes for a reader of the versions up to the newest, or nothing
unfoldable pub first_fault : ℕ → List ℕ → Option ReadFault
first_fault newest bytes = first_of (fault_table newest bytes)
