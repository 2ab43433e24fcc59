-- The bytes of packets.
use Rattle.std.proofs.Common.{◌≡◌, ℕ, zero, suc, List, [], ◌∷◌, ◌++◌, length, subst, arith}
use Rattle.std.specs.List.{AllByRecursion}
use Rattle.byteorder.specs.Endian.{big_bytes}
use Rattle.hex.specs.Hex.{IsBytes}
use Rattle.amo_packet.specs.declared.packet.OwnedPacket.{OwnedPacket}
use Rattle.amo_packet.specs.declared.packet.OwnedBody.{OwnedBody}
use Rattle.amo_packet.specs.declared.packet.OwnedBody.TheVariants.{NeedUid, Accept, Send, Ack, Cleanup, Batch}
use Rattle.amo_packet.specs.Batch.{messages}
use Rattle.amo_packet.specs.Grammar.{header, version_of, kind_of, parts, fields_of, spelling, messages_of, Spells}
use Rattle.amo_journal.specs.Fields.{IsPacket}

-- what stands behind is made of bytes, too
bytes_behind : (xs ys : List ℕ) → IsBytes (xs ++ ys) → IsBytes ys
bytes_behind [] ys bytes = bytes
bytes_behind (x ∷ xs) ys bytes = bytes_behind xs ys (λ i. bytes (suc i))

-- and so is what stands in front
bytes_in_front : (xs ys : List ℕ) → IsBytes (xs ++ ys) → IsBytes xs
bytes_in_front [] ys bytes i = omega arith
bytes_in_front (x ∷ xs) ys bytes zero = bytes zero
bytes_in_front (x ∷ xs) ys bytes (suc i) = bytes_in_front xs ys (λ j. bytes (suc j)) i

in_parts : (ms : List (List ℕ)) → IsBytes (parts ms) → AllByRecursion IsBytes ms
in_parts [] bytes = tt
in_parts (m ∷ ms) bytes = (bytes_in_front m (parts ms) (bytes_behind (big_bytes 2 (length m)) (m ++ parts ms) bytes), in_parts ms (bytes_behind m (parts ms) (bytes_behind (big_bytes 2 (length m)) (m ++ parts ms) bytes)))

in_fields : (body : OwnedBody) → IsBytes (fields_of body) → AllByRecursion IsBytes (messages_of body)
in_fields (NeedUid jd) bytes = tt
in_fields (Accept jd id) bytes = tt
in_fields (Send id m) bytes = (bytes_behind (big_bytes 8 id ++ big_bytes 2 (length m)) m bytes, tt)
in_fields (Ack id got) bytes = tt
in_fields (Cleanup id) bytes = tt
in_fields (Batch id b) bytes = in_parts (messages b) (bytes_behind (big_bytes 8 id ++ big_bytes 1 (length (messages b))) (parts (messages b)) bytes)

-- the messages of a packet that bytes spell are made of bytes
messages_in : (p : OwnedPacket) → IsBytes (spelling p) → AllByRecursion IsBytes (messages_of p.body)
unfolding spelling
messages_in p bytes = in_fields p.body (bytes_behind (header (version_of p.body) (kind_of p.body) p.stream) (fields_of p.body) bytes)

-- what bytes spell is a packet of a field
pub packet_spelt : (newest : ℕ) (bytes : List ℕ) (p q : OwnedPacket) → IsBytes bytes → Spells newest bytes p → q ≡ p → IsPacket q × (bytes ≡ spelling q)
packet_spelt newest bytes p q known spells same =
    rw same ((spells.fits, messages_in p (subst IsBytes spells.exact known)), spells.exact)
