-- Faults: a spelling has none, and fields of a wrong length have one.
use Rattle.std.proofs.Common.{◌≡◌, ◌<◌, ◌≤◌, ◌⊎◌, ℕ, true, false, List, ◌++◌, length, drop, slice_index, Some, None, arith, ap, ◌∙◌, inl, inr}
use Rattle.std.proofs.lemmas.Bool.Decides.{nat_tests}
use Rattle.std.proofs.lemmas.List.{length-drop}
use Rattle.byteorder.specs.Endian.{big_number}
use Rattle.amo_packet.specs.declared.fault.ReadFault.{ReadFault}
use Rattle.amo_packet.specs.declared.fault.ReadFault.TheVariants.{Short, Long, Count}
use Rattle.amo_packet.specs.declared.packet.OwnedPacket.{OwnedPacket}
use Rattle.amo_packet.specs.declared.packet.OwnedBody.{OwnedBody}
use Rattle.amo_packet.specs.declared.packet.OwnedBody.TheVariants.{NeedUid, Accept, Send, Ack, Cleanup, Batch}
use Rattle.amo_packet.specs.Grammar.{header, version_of, kind_of, parts, fields_of, spelling, CanBeWritten, FitsFields, IsSpellable, Spells}
use Rattle.amo_packet.specs.Batch.{messages}
use Rattle.amo_packet.specs.Fault.{first_fault, first_of, message_faults}
use Rattle.amo_packet.specs.Message.{max_message}
use Rattle.amo_packet.proofs.MessageFaults.{parts_faultless}

-- ---- the fields of a batch before its messages

pub batch_short : (newest stream : ℕ) (fields : List ℕ) → 2 ≤ newest → length fields < 9 → first_fault newest (header 2 6 stream ++ fields) ≡ Some Short
unfolding first_fault
batch_short newest stream fields v h = grind (arith, nat_tests)

pub batch_miscounted : (newest stream : ℕ) (fields : List ℕ) → 2 ≤ newest → 9 ≤ length fields → (slice_index fields 8 ≡ 0) ⊎ (4 < slice_index fields 8)
    → first_fault newest (header 2 6 stream ++ fields) ≡ Some Count
unfolding first_fault
batch_miscounted newest stream fields v h (inl e) = grind (arith, nat_tests)
batch_miscounted newest stream fields v h (inr e) = grind (arith, nat_tests)

-- a batch that is counted has the first fault of its messages
pub batch_counted : (newest stream : ℕ) (fields : List ℕ) → 2 ≤ newest → 9 ≤ length fields → 1 ≤ slice_index fields 8 → slice_index fields 8 ≤ 4
    → first_fault newest (header 2 6 stream ++ fields) ≡ first_of (message_faults (slice_index fields 8) (drop 9 fields))
unfolding first_fault
batch_counted newest stream fields v h low high = grind (arith, nat_tests)

-- ---- a spelling has no fault

no_fault_in : (newest stream : ℕ) (b : OwnedBody) → version_of b ≤ newest → FitsFields b → CanBeWritten b
    → first_fault newest (header (version_of b) (kind_of b) stream ++ fields_of b) ≡ None
unfolding first_fault
no_fault_in newest stream (NeedUid jd) v f short = grind (arith, nat_tests)
no_fault_in newest stream (Accept jd id) v f short = grind (arith, nat_tests)
no_fault_in newest stream (Send id m) v f short = grind (arith, nat_tests)
no_fault_in newest stream (Ack id false) v f short = grind (arith, nat_tests)
no_fault_in newest stream (Ack id true) v f short = grind (arith, nat_tests)
no_fault_in newest stream (Cleanup id) v f short = grind (arith, nat_tests)
no_fault_in newest stream (Batch id b) v f short =
    let count : slice_index (fields_of (Batch id b)) 8 ≡ length (messages b) = omega (arith, f.1) in
    batch_counted newest stream (fields_of (Batch id b)) v (omega arith) (omega (arith, f.1)) (omega (arith, f.1))
    ∙ ap (λ (n : ℕ). first_of (message_faults n (parts (messages b)))) count ∙ parts_faultless (messages b) short

pub first_fault-spelling : (newest : ℕ) (p : OwnedPacket) → version_of p.body ≤ newest → IsSpellable p → first_fault newest (spelling p) ≡ None
unfolding spelling
first_fault-spelling newest p v f = no_fault_in newest p.stream p.body v f.identifiers f.messages

pub first_fault-spelt : (newest : ℕ) (bytes : List ℕ) (p : OwnedPacket) → Spells newest bytes p → first_fault newest bytes ≡ None
first_fault-spelt newest bytes p s = ap (first_fault newest) s.exact ∙ first_fault-spelling newest p s.version s.fits

-- so bytes with a fault spell nothing
pub spelt_bytes_have_no_fault : (newest : ℕ) (bytes : List ℕ) (f : ReadFault) (p : OwnedPacket)
    → first_fault newest bytes ≡ Some f → Spells newest bytes p → ⊥
spelt_bytes_have_no_fault newest bytes f p e s = let none = first_fault-spelt newest bytes p s in absurd cc

-- ---- fields of a wrong length

-- the fault tells on which side of a length the bytes are
abbrev pub MissesLength : List ℕ → ℕ → ReadFault → Type 0
MissesLength bytes wanted f = ((f ≡ Short) × (length bytes < wanted)) ⊎ ((f ≡ Long) × (wanted < length bytes))

pub needuid_misses : (newest stream : ℕ) (fields : List ℕ) (f : ReadFault) → 1 ≤ newest → MissesLength fields 8 f
    → first_fault newest (header 1 1 stream ++ fields) ≡ Some f
unfolding first_fault
needuid_misses newest stream fields f v (inl h) = rw h.0 (grind (arith, nat_tests))
needuid_misses newest stream fields f v (inr h) = rw h.0 (grind (arith, nat_tests))

pub accept_misses : (newest stream : ℕ) (fields : List ℕ) (f : ReadFault) → 1 ≤ newest → MissesLength fields 16 f
    → first_fault newest (header 1 2 stream ++ fields) ≡ Some f
unfolding first_fault
accept_misses newest stream fields f v (inl h) = rw h.0 (grind (arith, nat_tests))
accept_misses newest stream fields f v (inr h) = rw h.0 (grind (arith, nat_tests))

pub send_misses : (newest stream given : ℕ) (message fields : List ℕ) (f : ReadFault) → 1 ≤ newest → 10 ≤ length fields
    → given ≡ big_number 2 (drop 8 fields) → given ≤ max_message → message ≡ drop 10 fields → MissesLength message given f
    → first_fault newest (header 1 3 stream ++ fields) ≡ Some f
unfolding first_fault
send_misses newest stream given message fields f v long is short rest (inl h) =
    let len = ap length rest ∙ length-drop 10 fields in rw h.0 (grind (arith, nat_tests))
send_misses newest stream given message fields f v long is short rest (inr h) =
    let len = ap length rest ∙ length-drop 10 fields in rw h.0 (grind (arith, nat_tests))

pub cleanup_misses : (newest stream : ℕ) (fields : List ℕ) (f : ReadFault) → 1 ≤ newest → MissesLength fields 8 f
    → first_fault newest (header 1 5 stream ++ fields) ≡ Some f
unfolding first_fault
cleanup_misses newest stream fields f v (inl h) = rw h.0 (grind (arith, nat_tests))
cleanup_misses newest stream fields f v (inr h) = rw h.0 (grind (arith, nat_tests))
