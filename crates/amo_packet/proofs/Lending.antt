-- Batches of messages that lie elsewhere.
use Rattle.std.proofs.Common.{◌≡◌, ◌≤◌, ℕ, suc, ◌-◌, List, [], ◌∷◌, length, take, drop, replicate, refl, ap, ◌∙◌, arith}
use Rattle.std.specs.Borrow.{Bor}
use Rattle.std.specs.List.{AllByRecursion}
use Rattle.byteorder.specs.Endian.{big_number}
use Rattle.amo_packet.specs.Batch.{Batch, messages, batch_from, AreBlank}
use Rattle.amo_packet.specs.Lent.{split, lent_messages}
use Rattle.amo_packet.specs.Packet.{batch_of, body_of}
use Rattle.amo_packet.specs.Grammar.{fields_of, CanBeWritten}
use Rattle.amo_packet.specs.declared.parts.Parts.{Parts}
use Rattle.amo_packet.specs.declared.parts.Lent.TheVariants.{Spelt}
use Rattle.amo_packet.specs.declared.packet.Body.{Body}
use Rattle.amo_packet.specs.declared.packet.Body.TheVariants.{NeedUid, Accept, Send, Ack, Cleanup, Batch as SomeBatch}
use Rattle.amo_packet.proofs.Batches.{messages-batch_from, parts_short}
use Rattle.amo_packet.proofs.MessageFaults.{length-split}

pub length-batch_of : (p : Parts) → length (messages (batch_of p)) ≡ length (lent_messages p.lent)
length-batch_of p = ap length (messages-batch_from (lent_messages p.lent) p.some)

pub lent_count : (p : Parts) (count : ℕ) (bytes : Bor (List ℕ)) → p.lent ≡ Spelt count bytes → length (lent_messages p.lent) ≡ count
lent_count p count bytes e = ap (λ l. length (lent_messages l)) e ∙ length-split count bytes.now

-- the first message that is spelt, and those after it
pub split_more : (count : ℕ) (bytes first rest : List ℕ) → 2 ≤ count → first ≡ take (big_number 2 bytes) (drop 2 bytes) → rest ≡ drop (big_number 2 bytes) (drop 2 bytes)
    → split count bytes ≡ first ∷ messages (batch_from (split (count - 1) rest))
split_more count bytes first rest h e e' =
    let more : count ≡ suc (count - 1) = omega arith in
    let others = messages-batch_from (split (count - 1) rest) (omega (arith, length-split (count - 1) rest)) in
    ap (λ (n : ℕ). split n bytes) more ∙ cc (e, e', others)

-- as many messages without a byte are those of a batch that has none
replicate_blank : (ms : List (List ℕ)) → AllByRecursion (λ m. m ≡ []) ms → replicate (length ms) [] ≡ ms
replicate_blank [] h = refl
replicate_blank (m ∷ ms) h = cc (h.0, replicate_blank ms h.1)

pub blank_is : (b : Batch) (n : ℕ) → n ≡ length (messages b) → AreBlank b → batch_from (replicate n []) ≡ b
blank_is b n e h = ap (λ (k : ℕ). batch_from (replicate k [])) e ∙ ap batch_from (replicate_blank (messages b) h)

-- what can be written is bounded
pub written_short : (b : Body) → CanBeWritten (body_of b) → length (fields_of (body_of b)) ≤ 4113
written_short (NeedUid jd) short = omega arith
written_short (Accept jd id) short = omega arith
written_short (Send id message) short = omega arith
written_short (Ack id got) short = omega arith
written_short (Cleanup id) short = omega arith
written_short (SomeBatch id p) short = omega (arith, parts_short (messages (batch_of p)) short, length-batch_of p, p.most)
