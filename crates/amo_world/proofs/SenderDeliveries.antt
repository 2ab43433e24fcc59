-- Forward simulation, of deliveries to a sender: an accept or an ack moves the queue in doubt, with no mark set.
use Rattle.std.proofs.Common.{◌≡◌, ℕ, Bool, true, false, not, eqb, List, [], ◌∷◌, ◌++◌, inl, inr, refl, sym, ap, subst}
use Rattle.std.specs.Option.{option_to_list}
use Rattle.std.proofs.lemmas.Bool.{eq-eqb}
use Rattle.std.proofs.lemmas.Bool.Decides.{eqb_tells}
use Rattle.amo_object.specs.declared.status.Status.TheVariants.{No}
use Rattle.amo_packet.specs.declared.packet.OwnedPacket.{OwnedPacket}
use Rattle.amo_packet.specs.declared.packet.OwnedBody.TheVariants as packet
use Rattle.amo_core.specs.Row.{Row}
use Rattle.amo_core.specs.declared.sender.SenderMode.{SenderMode}
use Rattle.amo_core.specs.declared.sender.SenderMode.TheVariants as sending
use Rattle.amo_core.specs.declared.receiver.ReceiverMode.{ReceiverMode}
use Rattle.amo_core.specs.declared.receiver.ReceiverMode.TheVariants as receiving
use Rattle.amo_core.specs.Sender as sender
use Rattle.amo_core.specs.declared.payload.Payload.{Payload}
use Rattle.amo_core.specs.declared.payload.Payload.TheVariants as payload
use Rattle.amo_world.specs.Stream.{untaken_once_sent}
use Rattle.amo_world.specs.Doubt.{Entry, DoubtState, settled_before, MovesUnmarking}
use Rattle.amo_core.specs.Receiver.{is_holding, is_acking}
use Rattle.amo_world.specs.View.{entries, has, carried_by, carried, may_meet_lost_accept, received, current, known, is_known_in_doubt, view_of}
use Rattle.amo_world.proofs.Moving.{state-eq}
use Rattle.amo_world.proofs.Unmarking.{stays, quietly_then, moves-to, same_parts, settles, leaves, HasFewerMarks, fewer-refl, fewer-append, fewer_marks}
use Rattle.amo_world.proofs.Untaken.{untaken_unless_sent}
use Rattle.amo_world.proofs.Packets.{Any, IsAcceptFor, IsAck, IsPastAccept}
use Rattle.amo_world.proofs.Invariant.{Took, IsUntouched, Untaken, SendingFacts, SenderFacts}
use Rattle.amo_world.proofs.Views.{same_either_way, carried_none, received_same, lost_is_met, entries_doubted, entries_fewer}

-- the view of a stream once a row has left its sender so
abbrev pub left_by : Row sender.SenderState → SenderMode → ReceiverMode → List OwnedPacket → List OwnedPacket → List (List ℕ) → DoubtState
left_by row mode at from_sender from_receiver untaken =
    view_of row.state.mode row.state.waiting at (option_to_list row.emitted ++ from_sender) from_receiver
    (untaken_once_sent mode row.state.mode untaken)

-- a sender that emits what changes no message carried, and nothing else, leaves the view
pub emits : (mode : SenderMode) (waiting : List (List ℕ)) (at : ReceiverMode) (from_sender more from_receiver : List OwnedPacket)
    (untaken : List (List ℕ)) → ((id : ℕ) → carried more id ≡ carried from_sender id)
    → MovesUnmarking (view_of mode waiting at from_sender from_receiver untaken) [] (view_of mode waiting at more from_receiver untaken)
emits mode waiting at from_sender more from_receiver untaken same =
    same_parts _ _
    (ap (λ (es : List Entry). es ++ (current mode at from_receiver untaken ++ entries false waiting))
    (sym (received_same mode at from_sender more same))) refl refl refl refl

-- a receiver that took nothing under an identifier holds nothing under it
holds_none : (at : ReceiverMode) (id : ℕ) → (Took at id → ⊥) → is_holding at id ≡ false
holds_none (receiving.Rcvd under held) id none = elim (eqb_tells under id) [
  | inl h ↦ absurd (none h.1)
  | inr h ↦ h.0
]
holds_none (receiving.Accept jd accepted) id none = refl
holds_none (receiving.Ack under) id none = refl
holds_none receiving.Idle id none = refl
holds_none receiving.Down id none = refl

-- what is carried under other identifiers is what it was
carrying_apart : (id accepted : ℕ) (load : Payload) (earlier : List (List ℕ)) → eqb id accepted ≡ false
    → carried_by (sender.carrying id load) accepted earlier ≡ earlier
carrying_apart id accepted (payload.Message m) earlier apart = rw apart refl
carrying_apart id accepted (payload.Batch b) earlier apart = rw apart refl

-- what is sent for the first time under an identifier, and still sent, is no part of what the receiver may be sent besides
received_once_sent : (n jd id : ℕ) (m : Payload) (at : ReceiverMode) (from_sender : List OwnedPacket)
    → (Any (IsPastAccept id) from_sender → ⊥)
    → received (sending.NeedId jd m) at from_sender ≡ received (sending.Send id m) at
    (record { stream = n; body = sender.carrying id m } ∷ from_sender)
received_once_sent n jd id m (receiving.Accept asked accepted) from_sender none = elim (eqb_tells id accepted) [
  | inl h ↦
      rw h.0 (ap (λ (ms : List (List ℕ)). entries true ms)
      (carried_none from_sender accepted (subst (λ (x : ℕ). Any (IsPastAccept x) from_sender → ⊥) h.1 none)))
  | inr h ↦
      rw h.0 (ap (λ (ms : List (List ℕ)). entries true ms) (sym (carrying_apart id accepted m (carried from_sender accepted) h.0)))
]
received_once_sent n jd id m (receiving.Rcvd under held) from_sender none = refl
received_once_sent n jd id m (receiving.Ack under) from_sender none = refl
received_once_sent n jd id m receiving.Idle from_sender none = refl
received_once_sent n jd id m receiving.Down from_sender none = refl

-- a Boolean whose negation is true is false
is_false : (b : Bool) → not b ≡ true → b ≡ false
is_false true e = absurd cc
is_false false e = refl

-- what is about to be sent is marked where it was taken up under an accept that is lost
current_once_sent : (jd id : ℕ) (m : Payload) (at : ReceiverMode) (from_receiver : List OwnedPacket) (untaken : List (List ℕ))
    → Any (IsAcceptFor jd id) from_receiver → (Took at id → ⊥)
    → HasFewerMarks (current (sending.NeedId jd m) at from_receiver untaken) (current (sending.Send id m) at from_receiver (sender.messages_in m))
current_once_sent jd id m at from_receiver untaken accept none =
    rw (holds_none at id none) (entries_fewer (may_meet_lost_accept at jd from_receiver) (not (has at id)) (sender.messages_in m)
    (λ lost. lost_is_met at jd id from_receiver accept (is_false (has at id) lost)))

-- what is about to be sent, or sent and not taken, leaves the status open
known_once_sent : (jd id : ℕ) (m : Payload) (waiting untaken : List (List ℕ))
    → known (sending.NeedId jd m) waiting untaken ≡ known (sending.Send id m) waiting (sender.messages_in m)
known_once_sent jd id (payload.Message m) [] untaken = refl
known_once_sent jd id (payload.Batch b) [] untaken = refl
known_once_sent jd id m (w ∷ waiting) untaken = refl

-- the status is in no doubt while nothing of what is sent is taken
known_in_no_doubt : (id : ℕ) (m : Payload) (waiting : List (List ℕ)) (at : ReceiverMode)
    → is_known_in_doubt (sending.Send id m) waiting (sender.messages_in m) at ≡ true → ⊥
known_in_no_doubt id (payload.Message m) [] at e = cc
known_in_no_doubt id (payload.Batch b) [] at e = cc
known_in_no_doubt id m (w ∷ waiting) at e = cc

-- the receiver accepts this identifier
abbrev IsAccepting : ReceiverMode → ℕ → Type 0
IsAccepting (receiving.Accept jd accepted) id = accepted ≡ id
IsAccepting _ id = ⊥

-- an identifier under which all was taken is not accepted
not_accepting_once_taken : (at : ReceiverMode) (id : ℕ) (m : Payload) → Untaken at id (sender.messages_in m) [] → IsAccepting at id → ⊥
not_accepting_once_taken (receiving.Accept jd accepted) id (payload.Message m) untaken is = let none : [] ≡ m ∷ [] = untaken is in cc
not_accepting_once_taken (receiving.Accept jd accepted) id (payload.Batch b) untaken is = let none : [] ≡ b.first ∷ b.rest = untaken is in cc
not_accepting_once_taken (receiving.Rcvd under held) id m untaken is = is
not_accepting_once_taken (receiving.Ack under) id m untaken is = is
not_accepting_once_taken receiving.Idle id m untaken is = is
not_accepting_once_taken receiving.Down id m untaken is = is

-- an identifier that the receiver does not have is not accepted
not_accepting_once_lost : (at : ReceiverMode) (id : ℕ) → has at id ≡ false → IsAccepting at id → ⊥
not_accepting_once_lost (receiving.Accept jd accepted) id lost is = let same : eqb accepted id ≡ true = eq-eqb accepted id is in cc
not_accepting_once_lost (receiving.Rcvd under held) id lost is = is
not_accepting_once_lost (receiving.Ack under) id lost is = is
not_accepting_once_lost receiving.Idle id lost is = is
not_accepting_once_lost receiving.Down id lost is = is

-- what the receiver may be sent besides is the same once its ack was delivered, where the ack is not for the identifier that it accepts
received_once_acked : (id : ℕ) (m : Payload) (got : Bool) (at : ReceiverMode) (from_sender : List OwnedPacket) → (IsAccepting at id → ⊥)
    → received (sending.Send id m) at from_sender ≡ received (sending.Quiet got) at from_sender
received_once_acked id m got (receiving.Accept jd accepted) from_sender apart = elim (eqb_tells id accepted) [
  | inl h ↦ absurd (apart (sym h.1))
  | inr h ↦ rw h.0 refl
]
received_once_acked id m got (receiving.Rcvd under held) from_sender apart = refl
received_once_acked id m got (receiving.Ack under) from_sender apart = refl
received_once_acked id m got receiving.Idle from_sender apart = refl
received_once_acked id m got receiving.Down from_sender apart = refl

-- two lists of three parts each, of which the last is the same
same_list : (xs us ys vs zs : List Entry) → xs ≡ us → ys ≡ vs → xs ++ (ys ++ zs) ≡ us ++ (vs ++ zs)
same_list xs us ys vs zs first second = rw (first, second) refl

-- once all was taken, the status is the same before the ack is delivered and after it
known_once_got : (id : ℕ) (m : Payload) (waiting : List (List ℕ))
    → known (sending.Send id m) waiting [] ≡ known (sending.Quiet true) waiting []
known_once_got id m [] = refl
known_once_got id m (w ∷ waiting) = refl

-- the status of a sender at rest is in no doubt
known_for_sure : (got : Bool) (waiting untaken : List (List ℕ)) (at : ReceiverMode)
    → is_known_in_doubt (sending.Quiet got) waiting untaken at ≡ true → ⊥
known_for_sure got waiting untaken at e = cc

-- the receiver acks that its client took what was sent
acks_got : (id : ℕ) (m : Payload) (waiting : List (List ℕ)) (at : ReceiverMode) (from_sender from_receiver : List OwnedPacket)
    → Untaken at id (sender.messages_in m) []
    → MovesUnmarking (view_of (sending.Send id m) waiting at from_sender from_receiver []) []
    (view_of (sending.Quiet true) waiting at from_sender from_receiver [])
acks_got id m waiting at from_sender from_receiver untaken =
    fewer_marks _ _
    (subst (λ (es : List Entry). HasFewerMarks (received (sending.Send id m) at from_sender
    ++ (current (sending.Send id m) at from_receiver [] ++ entries false waiting)) es)
    (same_list _ _ _ [] (entries false waiting) (received_once_acked id m true at from_sender (not_accepting_once_taken at id m untaken))
    (same_either_way (is_holding at id) []))
    (fewer-refl _))
    (known_once_got id m waiting)
    (λ e. absurd (known_for_sure true waiting [] at e))
    refl refl

-- what the receiver does not have it does not hold
not_held_once_lost : (at : ReceiverMode) (id : ℕ) → has at id ≡ false → is_holding at id ≡ false
not_held_once_lost (receiving.Accept jd accepted) id lost = refl
not_held_once_lost (receiving.Rcvd under held) id lost = lost
not_held_once_lost (receiving.Ack under) id lost = refl
not_held_once_lost receiving.Idle id lost = refl
not_held_once_lost receiving.Down id lost = refl

-- nor has it given it away
not_given_once_lost : (at : ReceiverMode) (id : ℕ) → has at id ≡ false → is_acking at id ≡ false
not_given_once_lost (receiving.Accept jd accepted) id lost = refl
not_given_once_lost (receiving.Rcvd under held) id lost = refl
not_given_once_lost (receiving.Ack under) id lost = lost
not_given_once_lost receiving.Idle id lost = refl
not_given_once_lost receiving.Down id lost = refl

-- what is sent under an identifier that the receiver does not have is in doubt
current_once_lost : (id : ℕ) (m : Payload) (at : ReceiverMode) (from_receiver : List OwnedPacket) (untaken : List (List ℕ))
    → has at id ≡ false
    → current (sending.Send id m) at from_receiver untaken ≡ entries true untaken
current_once_lost id m at from_receiver untaken lost = rw (not_held_once_lost at id lost, lost) refl

-- the list of a sender whose message the receiver lost
list_once_lost : (id : ℕ) (m : Payload) (waiting : List (List ℕ)) (at : ReceiverMode) (from_sender from_receiver : List OwnedPacket)
    (untaken : List (List ℕ)) → has at id ≡ false
    → received (sending.Send id m) at from_sender ++ (current (sending.Send id m) at from_receiver untaken ++ entries false waiting)
    ≡ received (sending.Quiet false) at from_sender ++ (entries true untaken ++ entries false waiting)
list_once_lost id m waiting at from_sender from_receiver untaken lost =
    same_list _ _ _ _ (entries false waiting)
    (received_once_acked id m false at from_sender (not_accepting_once_lost at id lost))
    (current_once_lost id m at from_receiver untaken lost)

-- once the message sent has left, the status is No, unless another message waits
settled_once_lost : (id : ℕ) (m : Payload) (n : List ℕ) (waiting untaken : List (List ℕ))
    → settled_before (entries false waiting)
    (known (sending.Send id m) waiting (n ∷ untaken)) No ≡ known (sending.Quiet false) waiting (n ∷ untaken)
settled_once_lost id m n [] untaken = refl
settled_once_lost id m n (w ∷ waiting) untaken = refl

-- where the message sent was not taken, the status is in no doubt before the ack is delivered, nor after it
known_in_no_more_doubt : (id : ℕ) (m : Payload) (n : List ℕ) (waiting untaken : List (List ℕ)) (at : ReceiverMode)
    → is_known_in_doubt (sending.Send id m) waiting (n ∷ untaken) at ≡ is_known_in_doubt (sending.Quiet false) waiting (n ∷ untaken) at
known_in_no_more_doubt id m n [] untaken at = refl
known_in_no_more_doubt id m n (w ∷ waiting) untaken at = refl

-- the receiver acks that it does not have the message
acks_lost : (id : ℕ) (m : Payload) (waiting : List (List ℕ)) (at : ReceiverMode) (from_sender from_receiver : List OwnedPacket)
    (untaken : List (List ℕ)) → has at id ≡ false
    → MovesUnmarking (view_of (sending.Send id m) waiting at from_sender from_receiver untaken) []
    (view_of (sending.Quiet false) waiting at from_sender from_receiver untaken)
acks_lost id m [] at from_sender from_receiver [] lost =
    moves-to
    (settles (view_of (sending.Send id m) [] at from_sender from_receiver []) (ap (λ (b : Bool). not b) (not_given_once_lost at id lost)))
    (state-eq _ _ (list_once_lost id m [] at from_sender from_receiver [] lost) refl refl refl refl)
acks_lost id m (w ∷ waiting) at from_sender from_receiver [] lost =
    same_parts _ _ (list_once_lost id m (w ∷ waiting) at from_sender from_receiver [] lost) refl refl refl refl
acks_lost id m waiting at from_sender from_receiver (n ∷ untaken) lost =
    moves-to
    (leaves (view_of (sending.Send id m) waiting at from_sender from_receiver (n ∷ untaken))
    (received (sending.Quiet false) at from_sender) (entries true (n ∷ untaken)) (entries false waiting)
    (entries_doubted (n ∷ untaken)) (list_once_lost id m waiting at from_sender from_receiver (n ∷ untaken) lost))
    (state-eq _ _ refl (settled_once_lost id m n waiting untaken) (known_in_no_more_doubt id m n waiting untaken at) refl refl)

-- while the receiver is in one mode, both sides emitted what they did, and this was not taken
module _ (n : ℕ) (at : ReceiverMode) (from_sender from_receiver : List OwnedPacket) (untaken : List (List ℕ)) where
  -- a sender in this mode, where these messages wait
  abbrev of : SenderMode → List (List ℕ) → sender.SenderState
  of mode waiting = record { stream = n; mode = mode; waiting = waiting }

  -- the stream as a queue in doubt
  abbrev At : SenderMode → List (List ℕ) → DoubtState
  At mode waiting = view_of mode waiting at from_sender from_receiver untaken

  -- a row of the sender changes of the queue in doubt no more than what a client does not see
  abbrev GoesQuietly : SenderMode → List (List ℕ) → Row sender.SenderState → Type 0
  GoesQuietly mode waiting row = MovesUnmarking (At mode waiting) [] (left_by row mode at from_sender from_receiver untaken)

  -- the first accept for the needuid comes: what was asked for is sent under it
  sends : (jd id : ℕ) (m : Payload) (waiting : List (List ℕ)) → Any (IsAcceptFor jd id) from_receiver → IsUntouched id at from_sender from_receiver
      → MovesUnmarking (At (sending.NeedId jd m) waiting) []
      (view_of (sending.Send id m) waiting at (record { stream = n; body = sender.carrying id m } ∷ from_sender) from_receiver (sender.messages_in m))
  sends jd id m waiting accept untouched =
      let more : List OwnedPacket = record { stream = n; body = sender.carrying id m } ∷ from_sender in
      fewer_marks _ _
      (fewer-append (received (sending.NeedId jd m) at from_sender)
      (current (sending.NeedId jd m) at from_receiver untaken ++ entries false waiting)
      (received (sending.Send id m) at more) (current (sending.Send id m) at from_receiver (sender.messages_in m) ++ entries false waiting)
      (subst (λ (es : List Entry). HasFewerMarks (received (sending.NeedId jd m) at from_sender) es)
      (received_once_sent n jd id m at from_sender untouched.sender_not_past) (fewer-refl _))
      (fewer-append (current (sending.NeedId jd m) at from_receiver untaken) (entries false waiting)
      (current (sending.Send id m) at from_receiver (sender.messages_in m)) (entries false waiting)
      (current_once_sent jd id m at from_receiver untaken accept untouched.not_taken) (fewer-refl _)))
      (known_once_sent jd id m waiting untaken)
      (λ e. absurd (known_in_no_doubt id m waiting at e))
      refl refl

  -- an accept comes
  pub accepts : (mode : SenderMode) (waiting : List (List ℕ)) (jd id : ℕ) → SenderFacts mode waiting at from_sender from_receiver untaken
      → Any (IsAcceptFor jd id) from_receiver → GoesQuietly mode waiting (sender.accept (of mode waiting) mode jd id)
  accepts (sending.NeedId asked m) waiting jd id facts accept = elim (eqb_tells asked jd) [
    | inl h ↦
        let here : Any (IsAcceptFor asked id) from_receiver = subst (λ (x : ℕ). Any (IsAcceptFor x id) from_receiver) (sym h.1) accept in
        rw h.0 (sends asked id m waiting here (facts.untouched id here))
    | inr h ↦ rw h.0 (emits (sending.NeedId asked m) waiting at from_sender _ from_receiver untaken (λ i. refl))
  ]
  accepts (sending.Send under m) waiting jd id facts accept = elim (eqb_tells under id) [
    | inl h ↦ rw h.0 (stays _)
    | inr h ↦ rw h.0 (emits (sending.Send under m) waiting at from_sender _ from_receiver untaken (λ i. refl))
  ]
  accepts (sending.Quiet got) waiting jd id facts accept =
      emits (sending.Quiet got) waiting at from_sender _ from_receiver untaken (λ i. refl)
  accepts sending.Down waiting jd id facts accept = stays _

  -- an ack to a sender that sends, under its identifier
  acks_own : (id : ℕ) (m : Payload) (got : Bool) (waiting : List (List ℕ)) → SendingFacts id (sender.messages_in m) at from_sender from_receiver untaken
      → Any (IsAck id got) from_receiver
      → GoesQuietly (sending.Send id m) waiting (sender.cleaning_up (of (sending.Quiet got) waiting) id got)
  acks_own id m true waiting facts ack =
      quietly_then
      (subst (λ (ms : List (List ℕ)). MovesUnmarking (view_of (sending.Send id m) waiting at from_sender from_receiver ms) []
      (view_of (sending.Quiet true) waiting at from_sender from_receiver ms)) (sym (facts.if_got ack))
      (acks_got id m waiting at from_sender from_receiver
      (subst (λ (ms : List (List ℕ)). Untaken at id (sender.messages_in m) ms) (facts.if_got ack) facts.untaken_is)))
      (emits (sending.Quiet true) waiting at from_sender _ from_receiver untaken (λ i. refl))
  acks_own id m false waiting facts ack = acks_lost id m waiting at from_sender from_receiver untaken (facts.if_lost ack)

  -- an ack that is not for what the sender sends
  acks_another : (mode : SenderMode) (waiting : List (List ℕ)) (id : ℕ) (got : Bool)
      → GoesQuietly mode waiting (sender.cleaning_up (of mode waiting) id got)
  acks_another mode waiting id true =
      rw (untaken_unless_sent mode untaken) (emits mode waiting at from_sender _ from_receiver untaken (λ i. refl))
  acks_another mode waiting id false = rw (untaken_unless_sent mode untaken) (stays _)

  -- an ack comes
  pub acks : (mode : SenderMode) (waiting : List (List ℕ)) (id : ℕ) (got : Bool) → SenderFacts mode waiting at from_sender from_receiver untaken
      → Any (IsAck id got) from_receiver → GoesQuietly mode waiting (sender.ack (of mode waiting) mode id got)
  acks (sending.Send under m) waiting id got facts ack = elim (eqb_tells under id) [
    | inl h ↦
        rw h.0 (subst (λ (x : ℕ). GoesQuietly (sending.Send under m) waiting (sender.cleaning_up (of (sending.Quiet got) waiting) x got)) h.1
        (acks_own under m got waiting facts (subst (λ (x : ℕ). Any (IsAck x got) from_receiver) (sym h.1) ack)))
    | inr h ↦ rw h.0 (acks_another (sending.Send under m) waiting id got)
  ]
  acks (sending.NeedId asked m) waiting id got facts ack = acks_another (sending.NeedId asked m) waiting id got
  acks (sending.Quiet b) waiting id got facts ack = acks_another (sending.Quiet b) waiting id got
  acks sending.Down waiting id got facts ack = stays _
