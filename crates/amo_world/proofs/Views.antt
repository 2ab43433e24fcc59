-- Forward simulation, the parts of the view of a stream: when they are the same, and when fewer messages are in doubt.
use Rattle.std.proofs.Common.{◌≡◌, ℕ, Bool, true, false, ◌&&◌, ◌||◌, not, eqb, if◌then◌else◌, List, [], ◌∷◌, ◌++◌, ◌⊎◌, inl, inr, refl, sym, ◌∙◌, ap, subst}
use Rattle.std.proofs.lemmas.Bool.{eq-eqb}
use Rattle.std.proofs.lemmas.Bool.Decides.{eqb_tells}
use Rattle.amo_packet.specs.declared.packet.OwnedPacket.{OwnedPacket}
use Rattle.amo_packet.specs.declared.packet.OwnedBody.{OwnedBody}
use Rattle.amo_packet.specs.declared.packet.OwnedBody.TheVariants as packet
use Rattle.amo_packet.specs.Batch.{messages}
use Rattle.amo_core.specs.declared.sender.SenderMode.{SenderMode}
use Rattle.amo_core.specs.declared.sender.SenderMode.TheVariants as sending
use Rattle.amo_core.specs.declared.receiver.ReceiverMode.{ReceiverMode}
use Rattle.amo_core.specs.declared.receiver.ReceiverMode.TheVariants as receiving
use Rattle.amo_core.specs.Sender as sender
use Rattle.amo_world.specs.Doubt.{Entry, entry}
use Rattle.amo_core.specs.Receiver.{is_holding}
use Rattle.amo_world.specs.View.{entries, has, carried_by, carried, is_lost_accept, may_meet_lost_accept, received, current}
use Rattle.amo_world.proofs.Unmarking.{HasFewerMarks, AllDoubted}
use Rattle.amo_world.proofs.Marking.{SameMessages}
use Rattle.amo_world.proofs.Packets.{Any, IsAcceptFor, IsSend, IsPastAccept}

-- the same, whichever way
pub same_either_way : {X : Type 0} (b : Bool) (x : X) → (if b then x else x) ≡ x
same_either_way true x = refl
same_either_way false x = refl

-- a number equals itself, also to the test
pub eqb_same : (a : ℕ) → eqb a a ≡ true
eqb_same a = eq-eqb a a refl

-- and two numbers that differ do so to the test, either way round
pub eqb_swap : (a b : ℕ) → eqb a b ≡ eqb b a
eqb_swap a b = elim (eqb_tells a b) [
  | inl h ↦ h.0 ∙ sym (eq-eqb b a (sym h.1))
  | inr h ↦ elim (eqb_tells b a) [
    | inl k ↦ absurd (h.1 (sym k.1))
    | inr k ↦ h.0 ∙ sym k.0
  ]
]

-- if either of two, then either of two others, where each has its own
either_of : (x y u v : Bool) → (x ≡ true → u ≡ true) → (y ≡ true → v ≡ true) → x || y ≡ true → u || v ≡ true
either_of true y u v first other is = rw (first refl) refl
either_of false y true v first other is = refl
either_of false y false v first other is = other is

-- a message sent under no name
carried_by_none : (b : OwnedBody) (id : ℕ) (earlier : List (List ℕ)) → (IsPastAccept id b → ⊥) → earlier ≡ [] → carried_by b id earlier ≡ []
carried_by_none (packet.NeedUid word) id earlier none is = is
carried_by_none (packet.Accept asked accepted) id earlier none is = is
carried_by_none (packet.Send under m) id earlier none is = elim (eqb_tells under id) [
  | inl h ↦ absurd (none h.1)
  | inr h ↦ rw h.0 is
]
carried_by_none (packet.Ack under ack) id earlier none is = is
carried_by_none (packet.Cleanup under) id earlier none is = is
carried_by_none (packet.Batch under b) id earlier none is = elim (eqb_tells under id) [
  | inl h ↦ absurd (none h.1)
  | inr h ↦ rw h.0 is
]

-- nothing is carried under an identifier that no send bears
pub carried_none : (ps : List OwnedPacket) (id : ℕ) → (Any (IsPastAccept id) ps → ⊥) → carried ps id ≡ []
carried_none [] id none = refl
carried_none (p ∷ ps) id none = carried_by_none p.body id (carried ps id) (λ n. none (inl n)) (carried_none ps id (λ a. none (inr a)))

carried_by_is : (b : OwnedBody) (id : ℕ) (m : List (List ℕ)) (earlier : List (List ℕ)) → IsSend id m b ⊎ (earlier ≡ m)
    → ((n : List (List ℕ)) → IsSend id n b → n ≡ m)
    → carried_by b id earlier ≡ m
carried_by_is (packet.NeedUid word) id m earlier (inl here) one = absurd here
carried_by_is (packet.NeedUid word) id m earlier (inr is) one = is
carried_by_is (packet.Accept asked accepted) id m earlier (inl here) one = absurd here
carried_by_is (packet.Accept asked accepted) id m earlier (inr is) one = is
carried_by_is (packet.Send under content) id m earlier (inl here) one = rw (eq-eqb under id here.0) here.1
carried_by_is (packet.Send under content) id m earlier (inr is) one = elim (eqb_tells under id) [
  | inl h ↦ rw h.0 (one (content ∷ []) (h.1, refl))
  | inr h ↦ rw h.0 is
]
carried_by_is (packet.Batch under b) id m earlier (inl here) one = rw (eq-eqb under id here.0) here.1
carried_by_is (packet.Batch under b) id m earlier (inr is) one = elim (eqb_tells under id) [
  | inl h ↦ rw h.0 (one (messages b) (h.1, refl))
  | inr h ↦ rw h.0 is
]
carried_by_is (packet.Ack under ack) id m earlier (inl here) one = absurd here
carried_by_is (packet.Ack under ack) id m earlier (inr is) one = is
carried_by_is (packet.Cleanup under) id m earlier (inl here) one = absurd here
carried_by_is (packet.Cleanup under) id m earlier (inr is) one = is

-- what is carried under an identifier are the messages that are sent under it
pub carried_is : (ps : List OwnedPacket) (id : ℕ) (m : List (List ℕ)) → Any (IsSend id m) ps → ((n : List (List ℕ)) → Any (IsSend id n) ps → n ≡ m)
    → carried ps id ≡ m
carried_is [] id m a one = absurd a
carried_is (p ∷ ps) id m (inl here) one = carried_by_is p.body id m (carried ps id) (inl here) (λ n s. one n (inl s))
carried_is (p ∷ ps) id m (inr there) one =
    carried_by_is p.body id m (carried ps id) (inr (carried_is ps id m there (λ n a. one n (inr a)))) (λ n s. one n (inl s))

-- what the receiver holds or may be sent depends on what is carried alone
pub received_same : (mode : SenderMode) (at : ReceiverMode) (from_sender more : List OwnedPacket)
    → ((id : ℕ) → carried more id ≡ carried from_sender id)
    → received mode at more ≡ received mode at from_sender
received_same mode (receiving.Rcvd id m) from_sender more same = refl
received_same mode (receiving.Accept jd id) from_sender more same =
    ap (λ (c : List (List ℕ)). if sender.is_sending mode id then [] else entries true c) (same id)
received_same mode (receiving.Ack id) from_sender more same = refl
received_same mode receiving.Idle from_sender more same = refl
received_same mode receiving.Down from_sender more same = refl

lost_one : (a b : ReceiverMode) (jd : ℕ) (body : OwnedBody) → ((id : ℕ) → IsAcceptFor jd id body → has b id ≡ false → has a id ≡ false)
    → is_lost_accept b jd body ≡ true → is_lost_accept a jd body ≡ true
lost_one a b jd (packet.NeedUid word) fewer is = is
lost_one a b jd (packet.Accept asked id) fewer is = elim (eqb_tells asked jd) [
  | inl h ↦ rw h.0 (ap (λ (x : Bool). not x) (fewer id (h.1, refl) (not_back (has b id) (rw h.0 at is))))
  | inr h ↦ absurd (never (not (has b id)) (rw h.0 at is))
]
  where
    not_back : (x : Bool) → not x ≡ true → x ≡ false
    not_back true e = absurd cc
    not_back false e = refl

    never : (x : Bool) → false && x ≡ true → ⊥
    never x e = cc
lost_one a b jd (packet.Send under content) fewer is = is
lost_one a b jd (packet.Ack under ack) fewer is = is
lost_one a b jd (packet.Cleanup under) fewer is = is
lost_one a b jd (packet.Batch under c) fewer is = is

-- a lost accept may be met as before, where no accept for the needuid is lost that was not
pub lost_fewer : (a b : ReceiverMode) (jd : ℕ) (ps : List OwnedPacket)
    → ((id : ℕ) → Any (IsAcceptFor jd id) ps → has b id ≡ false → has a id ≡ false)
    → may_meet_lost_accept b jd ps ≡ true → may_meet_lost_accept a jd ps ≡ true
lost_fewer a b jd [] fewer is = is
lost_fewer a b jd (p ∷ ps) fewer is =
    either_of (is_lost_accept b jd p.body) (may_meet_lost_accept b jd ps) (is_lost_accept a jd p.body) (may_meet_lost_accept a jd ps)
    (lost_one a b jd p.body (λ id o. fewer id (inl o)))
    (lost_fewer a b jd ps (λ id o. fewer id (inr o)))
    is

not_lost_one : (a : ReceiverMode) (jd : ℕ) (body : OwnedBody) → ((id : ℕ) → IsAcceptFor jd id body → has a id ≡ true)
    → is_lost_accept a jd body ≡ false
not_lost_one a jd (packet.NeedUid word) had = refl
not_lost_one a jd (packet.Accept asked id) had = elim (eqb_tells asked jd) [
  | inl h ↦ rw h.0 (ap (λ (x : Bool). not x) (had id (h.1, refl)))
  | inr h ↦ rw h.0 refl
]
not_lost_one a jd (packet.Send under content) had = refl
not_lost_one a jd (packet.Ack under ack) had = refl
not_lost_one a jd (packet.Cleanup under) had = refl
not_lost_one a jd (packet.Batch under b) had = refl

-- no lost accept may be met, where the receiver has each identifier that it accepted for the needuid
pub none_lost : (a : ReceiverMode) (jd : ℕ) (ps : List OwnedPacket) → ((id : ℕ) → Any (IsAcceptFor jd id) ps → has a id ≡ true)
    → may_meet_lost_accept a jd ps ≡ false
none_lost a jd [] had = refl
none_lost a jd (p ∷ ps) had = rw (not_lost_one a jd p.body (λ id o. had id (inl o)), none_lost a jd ps (λ id o. had id (inr o))) refl

lost_one_is : (a : ReceiverMode) (jd id : ℕ) (body : OwnedBody) → IsAcceptFor jd id body → has a id ≡ false
    → is_lost_accept a jd body ≡ true
lost_one_is a jd id (packet.NeedUid word) o lost = absurd o
lost_one_is a jd id (packet.Accept asked accepted) o lost =
    rw (eq-eqb asked jd o.0) (ap (λ (x : Bool). not x) (subst (λ (x : ℕ). has a x ≡ false) (sym o.1) lost))
lost_one_is a jd id (packet.Send under content) o lost = absurd o
lost_one_is a jd id (packet.Ack under ack) o lost = absurd o
lost_one_is a jd id (packet.Cleanup under) o lost = absurd o
lost_one_is a jd id (packet.Batch under b) o lost = absurd o

-- an accept for the needuid that is lost may be met
pub lost_is_met : (a : ReceiverMode) (jd id : ℕ) (ps : List OwnedPacket) → Any (IsAcceptFor jd id) ps → has a id ≡ false
    → may_meet_lost_accept a jd ps ≡ true
lost_is_met a jd id [] o lost = absurd o
lost_is_met a jd id (p ∷ ps) (inl here) lost = rw (lost_one_is a jd id p.body here lost) refl
lost_is_met a jd id (p ∷ ps) (inr there) lost =
    either_of false (may_meet_lost_accept a jd ps) (is_lost_accept a jd p.body) (may_meet_lost_accept a jd ps) (λ e. absurd cc) (λ e. e)
    (lost_is_met a jd id ps there lost)

-- messages in doubt, or in less
pub entries_fewer : (x y : Bool) (ms : List (List ℕ)) → (y ≡ true → x ≡ true) → HasFewerMarks (entries x ms) (entries y ms)
entries_fewer x y [] fewer = tt
entries_fewer x y (m ∷ ms) fewer = (refl, fewer, entries_fewer x y ms fewer)

pub entries_same : (x y : Bool) (ms : List (List ℕ)) → SameMessages (entries x ms) (entries y ms)
entries_same x y [] = tt
entries_same x y (m ∷ ms) = (refl, entries_same x y ms)

pub entries_doubted : (ms : List (List ℕ)) → AllDoubted (entries true ms)
entries_doubted [] = tt
entries_doubted (m ∷ ms) = (refl, entries_doubted ms)

pub entries-append : (b : Bool) (xs ys : List (List ℕ)) → entries b (xs ++ ys) ≡ entries b xs ++ entries b ys
entries-append b [] ys = refl
entries-append b (x ∷ xs) ys = ap (λ (es : List Entry). entry b x ∷ es) (entries-append b xs ys)

-- what the sender sends, or is about to, is not in doubt under another receiver where it was not under this one
abbrev pub DoubtsNoMore : SenderMode → ReceiverMode → ReceiverMode → List OwnedPacket → List OwnedPacket → Type 0
DoubtsNoMore (sending.NeedId jd m) a b from_receiver more =
    may_meet_lost_accept b jd more ≡ true → may_meet_lost_accept a jd from_receiver ≡ true
DoubtsNoMore (sending.Send id m) a b from_receiver more = (is_holding b id ≡ is_holding a id) × (has b id ≡ false → has a id ≡ false)
DoubtsNoMore (sending.Quiet got) a b from_receiver more = Unit {0}
DoubtsNoMore sending.Down a b from_receiver more = Unit {0}

none_or_entries_fewer : (h x y : Bool) (ms : List (List ℕ)) → (y ≡ true → x ≡ true)
    → HasFewerMarks (if h then [] else entries x ms) (if h then [] else entries y ms)
none_or_entries_fewer true x y ms fewer = tt
none_or_entries_fewer false x y ms fewer = entries_fewer x y ms fewer

pub not_fewer : (x y : Bool) → (y ≡ false → x ≡ false) → not y ≡ true → not x ≡ true
not_fewer x true fewer e = absurd cc
not_fewer true false fewer e = let f = fewer refl in absurd cc
not_fewer false false fewer e = refl

pub current_fewer : (mode : SenderMode) (a b : ReceiverMode) (from_receiver more : List OwnedPacket) (untaken : List (List ℕ))
    → DoubtsNoMore mode a b from_receiver more
    → HasFewerMarks (current mode a from_receiver untaken) (current mode b more untaken)
current_fewer (sending.NeedId jd load) a b from_receiver more untaken fewer =
    entries_fewer (may_meet_lost_accept a jd from_receiver) (may_meet_lost_accept b jd more) (sender.messages_in load) fewer
current_fewer (sending.Send id m) a b from_receiver more untaken fewer =
    rw fewer.0 (none_or_entries_fewer (is_holding a id) (not (has a id)) (not (has b id)) untaken (not_fewer (has a id) (has b id) fewer.1))
current_fewer (sending.Quiet got) a b from_receiver more untaken fewer = tt
current_fewer sending.Down a b from_receiver more untaken fewer = tt

lost_same_one : (a b : ReceiverMode) (jd : ℕ) (body : OwnedBody) → ((id : ℕ) → has a id ≡ has b id)
    → is_lost_accept a jd body ≡ is_lost_accept b jd body
lost_same_one a b jd (packet.NeedUid word) same = refl
lost_same_one a b jd (packet.Accept asked id) same = ap (λ (h : Bool). eqb asked jd && not h) (same id)
lost_same_one a b jd (packet.Send under content) same = refl
lost_same_one a b jd (packet.Ack under ack) same = refl
lost_same_one a b jd (packet.Cleanup under) same = refl
lost_same_one a b jd (packet.Batch under c) same = refl

-- the same accepts are lost under receivers that have the same identifiers
pub lost_same : (a b : ReceiverMode) (jd : ℕ) (ps : List OwnedPacket) → ((id : ℕ) → has a id ≡ has b id)
    → may_meet_lost_accept a jd ps ≡ may_meet_lost_accept b jd ps
lost_same a b jd [] same = refl
lost_same a b jd (p ∷ ps) same = rw (lost_same_one a b jd p.body same, lost_same a b jd ps same) refl

-- what the receiver may be sent depends on the sender only where it sends
pub received_unless_sending : (mode : SenderMode) (at : ReceiverMode) (from_sender : List OwnedPacket)
    → ((id : ℕ) → sender.is_sending mode id ≡ false)
    → received mode at from_sender ≡ received sending.Down at from_sender
received_unless_sending mode (receiving.Accept jd accepted) from_sender none = rw (none accepted) refl
received_unless_sending mode (receiving.Rcvd under held) from_sender none = refl
received_unless_sending mode (receiving.Ack under) from_sender none = refl
received_unless_sending mode receiving.Idle from_sender none = refl
received_unless_sending mode receiving.Down from_sender none = refl
