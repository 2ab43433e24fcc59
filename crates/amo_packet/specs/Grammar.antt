-- The packet grammar: the bytes that spell each packet. Numbers stand with the highest byte first.
use Rattle.std.specs.Prelude.{◌≡◌, ◌≤◌, ◌<◌, ◌^◌, ℕ, Bool, true, false, List, [], ◌∷◌, ◌++◌, length}
use Rattle.std.specs.List.{AllByRecursion}
use Rattle.byteorder.specs.Endian.{big_bytes}
use Rattle.amo_packet.specs.declared.packet.OwnedPacket.{OwnedPacket}
use Rattle.amo_packet.specs.declared.packet.OwnedBody.{OwnedBody}
use Rattle.amo_packet.specs.declared.packet.OwnedBody.TheVariants.{NeedUid, Accept, Send, Ack, Cleanup, Batch}
use Rattle.amo_packet.specs.Message.{IsShort}
use Rattle.amo_packet.specs.Batch.{messages}

-- the version under which a body is spelt
abbrev pub version_of : OwnedBody → ℕ
version_of (NeedUid jd) = 1
version_of (Accept jd id) = 1
version_of (Send id message) = 1
version_of (Ack id got) = 1
version_of (Cleanup id) = 1
version_of (Batch id batch) = 2

-- the number of a kind
abbrev pub kind_of : OwnedBody → ℕ
kind_of (NeedUid jd) = 1
kind_of (Accept jd id) = 2
kind_of (Send id message) = 3
kind_of (Ack id got) = 4
kind_of (Cleanup id) = 5
kind_of (Batch id batch) = 6

-- 41 4D, the version, the kind, and the stream
abbrev pub header : ℕ → ℕ → ℕ → List ℕ
header version kind stream = 0x41 ∷ 0x4D ∷ version ∷ kind ∷ big_bytes 4 stream

-- the byte of a flag
abbrev pub flag : Bool → ℕ
flag false = 0
flag true = 1

-- messages one after another, each behind its length
abbrev pub parts : List (List ℕ) → List ℕ
parts [] = []
parts (m ∷ ms) = big_bytes 2 (length m) ++ m ++ parts ms

-- the fields that follow the header: identifiers of eight bytes, a message behind its length in two, a flag, a count in one
abbrev pub fields_of : OwnedBody → List ℕ
fields_of (NeedUid jd) = big_bytes 8 jd
fields_of (Accept jd id) = big_bytes 8 jd ++ big_bytes 8 id
fields_of (Send id message) = big_bytes 8 id ++ big_bytes 2 (length message) ++ message
fields_of (Ack id got) = big_bytes 8 id ++ flag got ∷ []
fields_of (Cleanup id) = big_bytes 8 id
fields_of (Batch id batch) = big_bytes 8 id ++ big_bytes 1 (length (messages batch)) ++ parts (messages batch)

-- the bytes of a packet, and no others: nothing follows the fields
unfoldable pub spelling : OwnedPacket → List ℕ
spelling p = header (version_of p.body) (kind_of p.body) p.stream ++ fields_of p.body

-- the messages that a packet carries
abbrev pub messages_of : OwnedBody → List (List ℕ)
messages_of (NeedUid jd) = []
messages_of (Accept jd id) = []
messages_of (Send id message) = message ∷ []
messages_of (Ack id got) = []
messages_of (Cleanup id) = []
messages_of (Batch id batch) = messages batch

-- each message keeps to its limit
abbrev pub CanBeWritten : OwnedBody → Type 0
CanBeWritten body = AllByRecursion IsShort (messages_of body)

-- no message has a byte, so that a copy takes no memory
abbrev pub CarriesNoBytes : OwnedBody → Type 0
CarriesNoBytes body = AllByRecursion (λ m. m ≡ []) (messages_of body)

-- each identifier and each count fits its field
abbrev pub FitsFields : OwnedBody → Type 0
FitsFields (NeedUid jd) = jd < 2 ^ 64
FitsFields (Accept jd id) = (jd < 2 ^ 64) × (id < 2 ^ 64)
FitsFields (Send id message) = id < 2 ^ 64
FitsFields (Ack id got) = id < 2 ^ 64
FitsFields (Cleanup id) = id < 2 ^ 64
FitsFields (Batch id batch) = (id < 2 ^ 64) × (length batch.rest ≤ 3)

-- the packet has a spelling that tells it from all others
pub record IsSpellable (p : OwnedPacket) : Type 0 where
  pub stream : p.stream < 2 ^ 32
  pub identifiers : FitsFields p.body
  pub messages : CanBeWritten p.body

-- all of the bytes spell the packet, in a version that is at most the newest one
pub record Spells (newest : ℕ) (bytes : List ℕ) (p : OwnedPacket) : Type 0 where
  pub version : version_of p.body ≤ newest
  pub fits : IsSpellable p
  pub exact : bytes ≡ spelling p
