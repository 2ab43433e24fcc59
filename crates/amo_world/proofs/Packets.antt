-- What packets are, and what some packet of a list is.
use Rattle.std.proofs.Common.{◌≡◌, ℕ, Bool, List, [], ◌∷◌, ◌⊎◌, inl, inr, refl, sym, subst}
use Rattle.std.specs.List.{Contains}
use Rattle.amo_packet.specs.declared.packet.OwnedPacket.{OwnedPacket}
use Rattle.amo_packet.specs.declared.packet.OwnedBody.{OwnedBody}
use Rattle.amo_packet.specs.declared.packet.OwnedBody.TheVariants as packet
use Rattle.amo_packet.specs.Batch.{messages}
use Rattle.amo_core.specs.declared.payload.Payload.{Payload}
use Rattle.amo_core.specs.declared.payload.Payload.TheVariants as payload
use Rattle.amo_core.specs.Sender.{messages_in, carrying}
use Rattle.amo_world.proofs.Lists.{contains_nothing, contains_cases}

-- this holds of some packet
abbrev pub Any : (OwnedBody → Type 0) → List OwnedPacket → Type 0
Any P [] = ⊥
Any P (p ∷ ps) = P p.body ⊎ Any P ps

-- a needuid under this identifier of the sender
abbrev pub IsNeeduid : ℕ → OwnedBody → Type 0
IsNeeduid jd (packet.NeedUid word) = word ≡ jd
IsNeeduid jd _ = ⊥

-- an accept of this identifier, for this needuid
abbrev pub IsAcceptFor : ℕ → ℕ → OwnedBody → Type 0
IsAcceptFor jd id (packet.Accept asked accepted) = (asked ≡ jd) × (accepted ≡ id)
IsAcceptFor jd id _ = ⊥

-- an accept of this identifier, whatever it is for
abbrev pub IsAccept : ℕ → OwnedBody → Type 0
IsAccept id (packet.Accept asked accepted) = accepted ≡ id
IsAccept id _ = ⊥

-- a send or a batch of these messages under this identifier
abbrev pub IsSend : ℕ → List (List ℕ) → OwnedBody → Type 0
IsSend id ms (packet.Send under content) = (under ≡ id) × (content ∷ [] ≡ ms)
IsSend id ms (packet.Batch under b) = (under ≡ id) × (messages b ≡ ms)
IsSend id ms _ = ⊥

-- an ack of this identifier that says so
abbrev pub IsAck : ℕ → Bool → OwnedBody → Type 0
IsAck id got (packet.Ack under ack) = (under ≡ id) × (ack ≡ got)
IsAck id got _ = ⊥

-- a cleanup of this identifier
abbrev pub IsCleanup : ℕ → OwnedBody → Type 0
IsCleanup id (packet.Cleanup under) = under ≡ id
IsCleanup id _ = ⊥

-- a packet that bears this identifier once it was accepted: a send, a batch, an ack or a cleanup
abbrev pub IsPastAccept : ℕ → OwnedBody → Type 0
IsPastAccept id (packet.NeedUid word) = ⊥
IsPastAccept id (packet.Accept asked accepted) = ⊥
IsPastAccept id (packet.Send under content) = under ≡ id
IsPastAccept id (packet.Ack under ack) = under ≡ id
IsPastAccept id (packet.Cleanup under) = under ≡ id
IsPastAccept id (packet.Batch under b) = under ≡ id

-- it holds of a packet of the list
pub any-contains : (P : OwnedBody → Type 0) (ps : List OwnedPacket) (p : OwnedPacket) → Contains ps p → P p.body → Any P ps
any-contains P [] p c is = absurd (contains_nothing p c)
any-contains P (q ∷ ps) p c is = elim (contains_cases q ps p c) [
  | inl same ↦ inl (subst (λ (x : OwnedPacket). P x.body) (sym same) is)
  | inr there ↦ inr (any-contains P ps p there is)
]

-- where one thing holds of a packet, so does another
pub any-map : (P Q : OwnedBody → Type 0) (ps : List OwnedPacket) → ((b : OwnedBody) → P b → Q b) → Any P ps → Any Q ps
any-map P Q [] f a = absurd a
any-map P Q (p ∷ ps) f (inl here) = inl (f p.body here)
any-map P Q (p ∷ ps) f (inr there) = inr (any-map P Q ps f there)

-- an accept for a needuid is an accept
accept_for-accept : (jd id : ℕ) (b : OwnedBody) → IsAcceptFor jd id b → IsAccept id b
accept_for-accept jd id (packet.NeedUid word) is = absurd is
accept_for-accept jd id (packet.Accept asked accepted) is = is.1
accept_for-accept jd id (packet.Send under content) is = absurd is
accept_for-accept jd id (packet.Ack under ack) is = absurd is
accept_for-accept jd id (packet.Cleanup under) is = absurd is
accept_for-accept jd id (packet.Batch under b) is = absurd is

pub accepted : (jd id : ℕ) (ps : List OwnedPacket) → Any (IsAcceptFor jd id) ps → Any (IsAccept id) ps
accepted jd id ps a = any-map (IsAcceptFor jd id) (IsAccept id) ps (accept_for-accept jd id) a

-- a send, an ack and a cleanup come after the accept
send-past : (id : ℕ) (m : List (List ℕ)) (b : OwnedBody) → IsSend id m b → IsPastAccept id b
send-past id m (packet.NeedUid word) is = absurd is
send-past id m (packet.Accept asked accepted) is = absurd is
send-past id m (packet.Send under content) is = is.0
send-past id m (packet.Ack under ack) is = absurd is
send-past id m (packet.Cleanup under) is = absurd is
send-past id m (packet.Batch under b) is = is.0

pub send_is_past : (id : ℕ) (m : List (List ℕ)) (ps : List OwnedPacket) → Any (IsSend id m) ps → Any (IsPastAccept id) ps
send_is_past id m ps a = any-map (IsSend id m) (IsPastAccept id) ps (send-past id m) a

ack-past : (id : ℕ) (got : Bool) (b : OwnedBody) → IsAck id got b → IsPastAccept id b
ack-past id got (packet.NeedUid word) is = absurd is
ack-past id got (packet.Accept asked accepted) is = absurd is
ack-past id got (packet.Send under content) is = absurd is
ack-past id got (packet.Ack under ack) is = is.0
ack-past id got (packet.Cleanup under) is = absurd is
ack-past id got (packet.Batch under b) is = absurd is

pub ack_is_past : (id : ℕ) (got : Bool) (ps : List OwnedPacket) → Any (IsAck id got) ps → Any (IsPastAccept id) ps
ack_is_past id got ps a = any-map (IsAck id got) (IsPastAccept id) ps (ack-past id got) a

cleanup-past : (id : ℕ) (b : OwnedBody) → IsCleanup id b → IsPastAccept id b
cleanup-past id (packet.NeedUid word) is = absurd is
cleanup-past id (packet.Accept asked accepted) is = absurd is
cleanup-past id (packet.Send under content) is = absurd is
cleanup-past id (packet.Ack under ack) is = absurd is
cleanup-past id (packet.Cleanup under) is = is
cleanup-past id (packet.Batch under b) is = absurd is

pub cleanup_is_past : (id : ℕ) (ps : List OwnedPacket) → Any (IsCleanup id) ps → Any (IsPastAccept id) ps
cleanup_is_past id ps a = any-map (IsCleanup id) (IsPastAccept id) ps (cleanup-past id) a

-- what carries messages is a send or a batch of them, and nothing else
pub carrying_sends : (id : ℕ) (load : Payload) → IsSend id (messages_in load) (carrying id load)
carrying_sends id (payload.Message m) = (refl, refl)
carrying_sends id (payload.Batch b) = (refl, refl)

pub carrying_only : (id : ℕ) (load : Payload) (other : ℕ) (ms : List (List ℕ)) → IsSend other ms (carrying id load) → (id ≡ other) × (messages_in load ≡ ms)
carrying_only id (payload.Message m) other ms is = is
carrying_only id (payload.Batch b) other ms is = is

pub carrying_bears : (id : ℕ) (load : Payload) (other : ℕ) → IsPastAccept other (carrying id load) → id ≡ other
carrying_bears id (payload.Message m) other is = is
carrying_bears id (payload.Batch b) other is = is

pub carrying_no_needuid : (id : ℕ) (load : Payload) (jd : ℕ) → IsNeeduid jd (carrying id load) → ⊥
carrying_no_needuid id (payload.Message m) jd is = is
carrying_no_needuid id (payload.Batch b) jd is = is

pub carrying_no_cleanup : (id : ℕ) (load : Payload) (other : ℕ) → IsCleanup other (carrying id load) → ⊥
carrying_no_cleanup id (payload.Message m) other is = is
carrying_no_cleanup id (payload.Batch b) other is = is
