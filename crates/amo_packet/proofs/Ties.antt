-- What compares equal is one: flags, and packets.
use Rattle.std.proofs.Common.{◌≡◌, ℕ, Bool, true, false, List, [], ◌∷◌, refl, ◌∙◌, ap}
use Rattle.std.specs.declared.cmp.Ordering.{Ordering}
use Rattle.std.specs.declared.cmp.Ordering.TheVariants.{Less, Equal, Greater}
use Rattle.std.specs.Ordering.{ordering_then, bool_cmp, nat_cmp}
use Rattle.std.specs.Cmp.Lexicographic.{slice_cmp}
use Rattle.std.proofs.lemmas.Map.Lookups.{exact_unsigned, exact_bytes}
use Rattle.amo_packet.specs.declared.packet.OwnedPacket.{OwnedPacket}
use Rattle.amo_packet.specs.declared.packet.OwnedBody.{OwnedBody}
use Rattle.amo_packet.specs.declared.packet.OwnedBody.TheVariants.{NeedUid, Accept, Send, Ack, Cleanup, Batch}
use Rattle.amo_packet.specs.Batch as batch
use Rattle.amo_packet.specs.Batch.{messages}
use Rattle.amo_packet.proofs.Batches.{batch_is}
use Rattle.amo_packet.specs.contracts.packet.OwnedPacketOrd.TheImpl as packet_order
use Rattle.amo_packet.specs.contracts.packet.OwnedBodyOrd.TheImpl as body_order

pub less : Less ≡ Equal → ⊥
less e = cc

pub greater : Greater ≡ Equal → ⊥
greater e = cc

-- two orders, one after the other, tie where both do
pub both_tie : (a b : Ordering) → ordering_then a b ≡ Equal → (a ≡ Equal) × (b ≡ Equal)
both_tie Less b e = absurd (less e)
both_tie Equal b e = (refl, e)
both_tie Greater b e = absurd (greater e)

pub flags_tie : (x y : Bool) → bool_cmp x y ≡ Equal → x ≡ y
flags_tie false false e = refl
flags_tie false true e = absurd (less e)
flags_tie true false e = absurd (greater e)
flags_tie true true e = refl

messages_tie : (ms ns : List (List ℕ)) → slice_cmp (slice_cmp nat_cmp) ms ns ≡ Equal → ms ≡ ns
messages_tie [] [] e = refl
messages_tie [] (n ∷ ns) e = absurd (less e)
messages_tie (m ∷ ms) [] e = absurd (greater e)
messages_tie (m ∷ ms) (n ∷ ns) e =
    let both = both_tie (slice_cmp nat_cmp m n) (slice_cmp (slice_cmp nat_cmp) ms ns) e in
    cc (exact_bytes m n both.0, messages_tie ms ns both.1)

body_ties : (a b : OwnedBody) → body_order.cmp-value.it a b ≡ Equal → a ≡ b
body_ties (NeedUid a0) (NeedUid b0) e = ap (λ (x : ℕ). NeedUid x) (exact_unsigned a0 b0 e)
body_ties (NeedUid a0) (Accept b0 b1) e = absurd (less e)
body_ties (NeedUid a0) (Send b0 b1) e = absurd (less e)
body_ties (NeedUid a0) (Ack b0 b1) e = absurd (less e)
body_ties (NeedUid a0) (Cleanup b0) e = absurd (less e)
body_ties (NeedUid a0) (Batch b0 b1) e = absurd (less e)
body_ties (Accept a0 a1) (NeedUid b0) e = absurd (greater e)
body_ties (Accept a0 a1) (Accept b0 b1) e =
    let both = both_tie _ _ e in ap (λ (x : ℕ). Accept x a1) (exact_unsigned a0 b0 both.0) ∙ ap (λ (x : ℕ). Accept b0 x) (exact_unsigned a1 b1 both.1)
body_ties (Accept a0 a1) (Send b0 b1) e = absurd (less e)
body_ties (Accept a0 a1) (Ack b0 b1) e = absurd (less e)
body_ties (Accept a0 a1) (Cleanup b0) e = absurd (less e)
body_ties (Accept a0 a1) (Batch b0 b1) e = absurd (less e)
body_ties (Send a0 a1) (NeedUid b0) e = absurd (greater e)
body_ties (Send a0 a1) (Accept b0 b1) e = absurd (greater e)
body_ties (Send a0 a1) (Send b0 b1) e =
    let both = both_tie _ _ e in ap (λ (x : ℕ). Send x a1) (exact_unsigned a0 b0 both.0) ∙ ap (λ (x : List ℕ). Send b0 x) (exact_bytes a1 b1 both.1)
body_ties (Send a0 a1) (Ack b0 b1) e = absurd (less e)
body_ties (Send a0 a1) (Cleanup b0) e = absurd (less e)
body_ties (Send a0 a1) (Batch b0 b1) e = absurd (less e)
body_ties (Ack a0 a1) (NeedUid b0) e = absurd (greater e)
body_ties (Ack a0 a1) (Accept b0 b1) e = absurd (greater e)
body_ties (Ack a0 a1) (Send b0 b1) e = absurd (greater e)
body_ties (Ack a0 a1) (Ack b0 b1) e =
    let both = both_tie _ _ e in ap (λ (x : ℕ). Ack x a1) (exact_unsigned a0 b0 both.0) ∙ ap (λ (x : Bool). Ack b0 x) (flags_tie a1 b1 both.1)
body_ties (Ack a0 a1) (Cleanup b0) e = absurd (less e)
body_ties (Ack a0 a1) (Batch b0 b1) e = absurd (less e)
body_ties (Cleanup a0) (NeedUid b0) e = absurd (greater e)
body_ties (Cleanup a0) (Accept b0 b1) e = absurd (greater e)
body_ties (Cleanup a0) (Send b0 b1) e = absurd (greater e)
body_ties (Cleanup a0) (Ack b0 b1) e = absurd (greater e)
body_ties (Cleanup a0) (Cleanup b0) e = ap (λ (x : ℕ). Cleanup x) (exact_unsigned a0 b0 e)
body_ties (Cleanup a0) (Batch b0 b1) e = absurd (less e)
body_ties (Batch a0 a1) (NeedUid b0) e = absurd (greater e)
body_ties (Batch a0 a1) (Accept b0 b1) e = absurd (greater e)
body_ties (Batch a0 a1) (Send b0 b1) e = absurd (greater e)
body_ties (Batch a0 a1) (Ack b0 b1) e = absurd (greater e)
body_ties (Batch a0 a1) (Cleanup b0) e = absurd (greater e)
body_ties (Batch a0 a1) (Batch b0 b1) e =
    let both = both_tie _ _ e in ap (λ (x : ℕ). Batch x a1) (exact_unsigned a0 b0 both.0) ∙ ap (λ (x : batch.Batch). Batch b0 x) (batch_is a1 b1 (messages_tie (messages a1) (messages b1) both.1))

abbrev the_packet : ℕ → OwnedBody → OwnedPacket
the_packet stream body = record { stream = stream; body = body }

pub packets_tie : (p q : OwnedPacket) → packet_order.cmp-value.it p q ≡ Equal → p ≡ q
packets_tie p q e =
    let both = both_tie _ _ e in
    ap (λ (s : ℕ). the_packet s p.body) (exact_unsigned p.stream q.stream both.0) ∙ ap (λ (b : OwnedBody). the_packet q.stream b) (body_ties p.body q.body both.1)
