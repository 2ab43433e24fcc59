-- Forward simulation, of a sender: each row of its table but the crash moves the queue in doubt, with no mark set.
use Rattle.std.proofs.Common.{◌≡◌, ◌≢◌, ℕ, Bool, true, false, eqb, if◌then◌else◌, Some, List, [], ◌∷◌, ◌++◌, ◌-◌, length, take, drop, inl, inr, refl, sym, ◌∙◌, ap, subst, append_assoc}
use Rattle.std.specs.List.{Contains}
use Rattle.std.specs.Option.{option_to_list, IfSome}
use Rattle.std.proofs.lemmas.Bool.Decides.{eqb_tells}
use Rattle.std.proofs.lemmas.List.{take-append-drop}
use Rattle.amo_object.specs.declared.step.End.TheVariants.{Sender}
use Rattle.amo_object.specs.declared.step.Step.{Step}
use Rattle.amo_object.specs.declared.step.Step.TheVariants as step
use Rattle.amo_object.specs.declared.status.Status.TheVariants.{Open}
use Rattle.amo_packet.specs.declared.packet.OwnedPacket.{OwnedPacket}
use Rattle.amo_packet.specs.declared.packet.OwnedBody.{OwnedBody}
use Rattle.amo_packet.specs.declared.packet.OwnedBody.TheVariants as packet
use Rattle.amo_core.specs.Row.{Row, silent}
use Rattle.amo_core.specs.declared.act.Act.{Act}
use Rattle.amo_core.specs.declared.act.Act.TheVariants as act
use Rattle.amo_core.specs.declared.reply.Reply.{Reply}
use Rattle.amo_core.specs.declared.reply.Reply.TheVariants as reply
use Rattle.amo_core.specs.declared.sender.SenderMode.{SenderMode}
use Rattle.amo_core.specs.declared.sender.SenderMode.TheVariants as sending
use Rattle.amo_core.specs.declared.receiver.ReceiverMode.{ReceiverMode}
use Rattle.amo_core.specs.declared.receiver.ReceiverMode.TheVariants as receiving
use Rattle.amo_packet.specs.Batch.{batch, max_batch}
use Rattle.amo_core.specs.Sender as sender
use Rattle.amo_core.specs.declared.payload.Payload.{Payload}
use Rattle.amo_core.specs.declared.payload.Payload.TheVariants as payload
use Rattle.amo_world.specs.Stream.{Stream, after, reply_of}
use Rattle.amo_world.specs.History.{WasEmitted, IsNewWord}
use Rattle.amo_world.specs.Served.{call_of}
use Rattle.amo_world.specs.Doubt.{Entry, entry, DoubtState, MovesUnmarking}
use Rattle.amo_world.specs.View.{entries, carried, received, current, known, is_known_in_doubt, view_of, view}
use Rattle.amo_world.proofs.Moving.{state-eq}
use Rattle.amo_world.proofs.Unmarking.{stays, calls, moves-to, same_parts}
use Rattle.amo_world.proofs.Untaken.{untaken_unless_sent}
use Rattle.amo_world.proofs.Packets.{Any, any-contains, IsNeeduid, IsAcceptFor, IsAck}
use Rattle.amo_world.proofs.Invariant.{PacketFacts, SenderFacts, Invariant}
use Rattle.amo_world.proofs.Views.{carried_is, none_lost, entries-append, received_unless_sending}
use Rattle.amo_world.proofs.SenderDeliveries.{left_by, emits, accepts, acks}

-- the status is open once a message was put
known_once_put : (mode : SenderMode) (waiting untaken : List (List ℕ)) (m : List ℕ) → sender.is_down mode ≡ false
    → known mode (waiting ++ m ∷ []) untaken ≡ Open
known_once_put (sending.Quiet got) [] untaken m up = refl
known_once_put (sending.Quiet got) (w ∷ waiting) untaken m up = refl
known_once_put (sending.NeedId jd c) [] untaken m up = refl
known_once_put (sending.NeedId jd c) (w ∷ waiting) untaken m up = refl
known_once_put (sending.Send id c) [] untaken m up = refl
known_once_put (sending.Send id c) (w ∷ waiting) untaken m up = refl
known_once_put sending.Down waiting untaken m up = cc

-- and it is in no doubt
known_for_sure_once_put : (mode : SenderMode) (waiting untaken : List (List ℕ)) (m : List ℕ) (at : ReceiverMode)
    → is_known_in_doubt mode (waiting ++ m ∷ []) untaken at ≡ false
known_for_sure_once_put (sending.Quiet got) waiting untaken m at = refl
known_for_sure_once_put (sending.NeedId jd c) waiting untaken m at = refl
known_for_sure_once_put (sending.Send id c) [] untaken m at = refl
known_for_sure_once_put (sending.Send id c) (w ∷ waiting) untaken m at = refl
known_for_sure_once_put sending.Down waiting untaken m at = refl

-- one more message at the end of a list of three parts
list_once_put : (xs ys : List Entry) (waiting : List (List ℕ)) (m : List ℕ)
    → (xs ++ (ys ++ entries false waiting)) ++ entry false m ∷ [] ≡ xs ++ (ys ++ entries false (waiting ++ m ∷ []))
list_once_put xs ys waiting m =
    append_assoc xs (ys ++ entries false waiting) (entry false m ∷ [])
    ∙ ap (λ (es : List Entry). xs ++ es) (append_assoc ys (entries false waiting) (entry false m ∷ []))
    ∙ ap (λ (es : List Entry). xs ++ (ys ++ es)) (sym (entries-append false waiting (m ∷ [])))

-- the steps of the queue that a client sees in an act of a sender
abbrev steps_of : Act → Reply → List Step
steps_of a r = option_to_list (call_of Sender a r)

-- a row of the table has one reply
with_reply : (a : Act) (v w : DoubtState) (given r : Reply) → Some given ≡ Some r → MovesUnmarking v (steps_of a given) w
    → MovesUnmarking v (steps_of a r) w
with_reply a v w given r is m = let same : given ≡ r = cc in subst (λ (x : Reply). MovesUnmarking v (steps_of a x) w) same m

-- the status is open while a message waits, and open once it is about to be sent
known_once_started : (got : Bool) (m : List ℕ) (waiting left untaken : List (List ℕ)) (word : ℕ) (load : Payload)
    → known (sending.Quiet got) (m ∷ waiting) untaken ≡ known (sending.NeedId word load) left untaken
known_once_started got m waiting [] untaken word load = refl
known_once_started got m waiting (w ∷ left) untaken word load = refl

-- what the receiver may be sent does not depend on a sender that does not send
received_once_started : (n : ℕ) (got : Bool) (word : ℕ) (load : Payload) (at : ReceiverMode) (from_sender : List OwnedPacket)
    → received (sending.Quiet got) at from_sender ≡ received (sending.NeedId word load) at
    (record { stream = n; body = packet.NeedUid word } ∷ from_sender)
received_once_started n got word load (receiving.Accept jd accepted) from_sender = refl
received_once_started n got word load (receiving.Rcvd under held) from_sender = refl
received_once_started n got word load (receiving.Ack under) from_sender = refl
received_once_started n got word load receiving.Idle from_sender = refl
received_once_started n got word load receiving.Down from_sender = refl

-- what a batch takes, and what is left to wait, are the messages that waited
parted : (m : List ℕ) (waiting : List (List ℕ)) (count : ℕ)
    → entries false (m ∷ take count waiting) ++ entries false (drop count waiting) ≡ entries false (m ∷ waiting)
parted m waiting count =
    sym (entries-append false (m ∷ take count waiting) (drop count waiting)) ∙ ap (λ (ms : List (List ℕ)). entries false (m ∷ ms)) (take-append-drop count waiting)

-- messages that were sent are carried as before once they are sent again
carried_again : (n id : ℕ) (load : Payload) (from_sender : List OwnedPacket) → carried from_sender id ≡ sender.messages_in load → (other : ℕ)
    → carried (record { stream = n; body = sender.carrying id load } ∷ from_sender) other ≡ carried from_sender other
carried_again n id (payload.Message m) from_sender is other = elim (eqb_tells id other) [
  | inl h ↦ rw h.0 (sym (subst (λ (x : ℕ). carried from_sender x ≡ m ∷ []) h.1 is))
  | inr h ↦ rw h.0 refl
]
carried_again n id (payload.Batch b) from_sender is other = elim (eqb_tells id other) [
  | inl h ↦ rw h.0 (sym (subst (λ (x : ℕ). carried from_sender x ≡ b.first ∷ b.rest) h.1 is))
  | inr h ↦ rw h.0 refl
]

-- while the receiver is in one mode, both sides emitted what they did, and this was not taken
module _ (n : ℕ) (at : ReceiverMode) (from_sender from_receiver : List OwnedPacket) (untaken : List (List ℕ)) where
  -- a sender in this mode, where these messages wait
  abbrev of : SenderMode → List (List ℕ) → sender.SenderState
  of mode waiting = record { stream = n; mode = mode; waiting = waiting }

  -- the stream as a queue in doubt
  abbrev At : SenderMode → List (List ℕ) → DoubtState
  At mode waiting = view_of mode waiting at from_sender from_receiver untaken

  -- a row of the sender moves the queue in doubt by these steps
  abbrev Goes : SenderMode → List (List ℕ) → Row sender.SenderState → List Step → Type 0
  Goes mode waiting row steps = MovesUnmarking (At mode waiting) steps (left_by row mode at from_sender from_receiver untaken)

  abbrev Before : SenderMode → List (List ℕ) → Type 0
  Before mode waiting = SenderFacts mode waiting at from_sender from_receiver untaken

  -- a message is put
  adds : (mode : SenderMode) (waiting : List (List ℕ)) (m : List ℕ) → sender.is_down mode ≡ false
      → MovesUnmarking (At mode waiting) (step.Put m ∷ []) (At mode (waiting ++ m ∷ []))
  adds mode waiting m up =
      moves-to
      (calls (At mode waiting) (step.Put m) up)
      (state-eq _ _
      (list_once_put (received mode at from_sender) (current mode at from_receiver untaken) waiting m)
      (sym (known_once_put mode waiting untaken m up))
      (sym (known_for_sure_once_put mode waiting untaken m at))
      refl refl)

  -- a message is put, unless the sender is full
  puts_unless : (full : Bool) (mode : SenderMode) (waiting : List (List ℕ)) (m : List ℕ) (r : Reply) → sender.is_down mode ≡ false
      → let s = of mode waiting in
      let row : Row sender.SenderState = if full then silent s reply.Full else silent (record s { waiting = waiting ++ m ∷ [] }) reply.Ok in
      row.reply ≡ Some r → Goes mode waiting row (steps_of (act.Put m) r)
  puts_unless true mode waiting m r up is = with_reply (act.Put m) _ _ reply.Full r is (rw (untaken_unless_sent mode untaken) (stays _))
  puts_unless false mode waiting m r up is =
      with_reply (act.Put m) _ _ reply.Ok r is (rw (untaken_unless_sent mode untaken) (adds mode waiting m up))

  -- the client puts a message
  puts : (mode : SenderMode) (waiting : List (List ℕ)) (m : List ℕ) (r : Reply) → (sender.put (of mode waiting) mode m).reply ≡ Some r
      → Goes mode waiting (sender.put (of mode waiting) mode m) (steps_of (act.Put m) r)
  puts (sending.Quiet got) waiting m r is = puts_unless (eqb (length waiting) 16) (sending.Quiet got) waiting m r refl is
  puts (sending.NeedId jd c) waiting m r is = puts_unless (eqb (length waiting) 16) (sending.NeedId jd c) waiting m r refl is
  puts (sending.Send id c) waiting m r is = puts_unless (eqb (length waiting) 16) (sending.Send id c) waiting m r refl is
  puts sending.Down waiting m r is =
      with_reply (act.Put m) _ _ reply.Down r is (calls (At sending.Down waiting) (step.DownReply Sender) refl)

  -- the client asks what is known of the last message put
  gets_ack : (mode : SenderMode) (waiting : List (List ℕ)) (r : Reply) → (sender.get_ack (of mode waiting) mode waiting).reply ≡ Some r
      → Goes mode waiting (sender.get_ack (of mode waiting) mode waiting) (steps_of act.Ack r)
  gets_ack (sending.Quiet true) [] r is =
      with_reply act.Ack _ _ reply.Yes r is (calls (At (sending.Quiet true) []) (step.Ack true) (refl, refl, refl))
  gets_ack (sending.Quiet false) [] r is =
      with_reply act.Ack _ _ reply.No r is (calls (At (sending.Quiet false) []) (step.Ack false) (refl, refl, refl))
  gets_ack (sending.Quiet true) (m ∷ waiting) r is = with_reply act.Ack _ _ reply.NotYet r is (stays _)
  gets_ack (sending.Quiet false) (m ∷ waiting) r is = with_reply act.Ack _ _ reply.NotYet r is (stays _)
  gets_ack (sending.NeedId jd m) waiting r is = with_reply act.Ack _ _ reply.NotYet r is (stays _)
  gets_ack (sending.Send id m) waiting r is = with_reply act.Ack _ _ reply.NotYet r is (stays _)
  gets_ack sending.Down waiting r is =
      with_reply act.Ack _ _ reply.Down r is (calls (At sending.Down waiting) (step.DownReply Sender) refl)

  -- a handshake begins for these of the messages that wait, under a word for which nothing was accepted
  begins_fresh : (got : Bool) (m : List ℕ) (waiting left : List (List ℕ)) (load : Payload) (word : ℕ)
      → entries false (sender.messages_in load) ++ entries false left ≡ entries false (m ∷ waiting)
      → ((id : ℕ) → Any (IsAcceptFor word id) from_receiver → ⊥)
      → Goes (sending.Quiet got) (m ∷ waiting) (sender.begin (of (sending.Quiet got) (m ∷ waiting)) load left word) []
  begins_fresh got m waiting left load word parts none =
      same_parts _ _
      (rw (none_lost at word from_receiver (λ id accept. absurd (none id accept)))
      (ap (λ (es : List Entry). es ++ entries false (m ∷ waiting)) (received_once_started n got word load at from_sender)
      ∙ ap (λ (es : List Entry). received (sending.NeedId word load) at (record { stream = n; body = packet.NeedUid word } ∷ from_sender) ++ es) (sym parts)))
      (known_once_started got m waiting left untaken word load)
      refl refl refl

  -- a handshake begins, if a message waits and the sender is at rest
  starts : (mode : SenderMode) (waiting : List (List ℕ)) (sender_words : List ℕ) (word : ℕ) → PacketFacts from_sender from_receiver
      → ((jd : ℕ) → Any (IsNeeduid jd) from_sender → Contains sender_words jd)
      → IfSome (sender.used_word (of mode waiting) (act.Start word)) (λ jd. ¬ (Contains sender_words jd))
      → Goes mode waiting (sender.start (of mode waiting) mode waiting word) []
  starts (sending.Quiet got) (m ∷ waiting) sender_words word packets needuid_words new =
      begins_fresh got m waiting waiting (payload.Message m) word refl (λ id accept. new (needuid_words word (packets.asked word id accept)))
  starts (sending.Quiet got) [] sender_words word packets needuid_words new = stays _
  starts (sending.NeedId jd m) waiting sender_words word packets needuid_words new = stays _
  starts (sending.Send id m) waiting sender_words word packets needuid_words new = stays _
  starts sending.Down waiting sender_words word packets needuid_words new = stays _

  -- a handshake for a batch begins, if a message waits and the sender is at rest
  starts_batch : (mode : SenderMode) (waiting : List (List ℕ)) (sender_words : List ℕ) (word : ℕ) → PacketFacts from_sender from_receiver
      → ((jd : ℕ) → Any (IsNeeduid jd) from_sender → Contains sender_words jd)
      → IfSome (sender.used_word (of mode waiting) (act.Batch word)) (λ jd. ¬ (Contains sender_words jd))
      → Goes mode waiting (sender.start_batch (of mode waiting) mode waiting word) []
  starts_batch (sending.Quiet got) (m ∷ waiting) sender_words word packets needuid_words new =
      begins_fresh got m waiting (drop (max_batch - 1) waiting) (payload.Batch (batch m (take (max_batch - 1) waiting))) word
      (parted m waiting (max_batch - 1)) (λ id accept. new (needuid_words word (packets.asked word id accept)))
  starts_batch (sending.Quiet got) [] sender_words word packets needuid_words new = stays _
  starts_batch (sending.NeedId jd m) waiting sender_words word packets needuid_words new = stays _
  starts_batch (sending.Send id m) waiting sender_words word packets needuid_words new = stays _
  starts_batch sending.Down waiting sender_words word packets needuid_words new = stays _

  -- the packet of the mode is said again
  resends : (mode : SenderMode) (waiting : List (List ℕ)) → PacketFacts from_sender from_receiver → Before mode waiting
      → Goes mode waiting (sender.resend (of mode waiting) mode) []
  resends (sending.NeedId jd m) waiting packets facts =
      emits (sending.NeedId jd m) waiting at from_sender _ from_receiver untaken (λ i. refl)
  resends (sending.Send id m) waiting packets facts =
      emits (sending.Send id m) waiting at from_sender _ from_receiver untaken
      (carried_again n id m from_sender
      (carried_is from_sender id (sender.messages_in m) facts.was_sent (λ x s. packets.one_message id x (sender.messages_in m) s facts.was_sent)))
  resends (sending.Quiet got) waiting packets facts = stays _
  resends sending.Down waiting packets facts = stays _

  -- the sender is up again
  recovers : (mode : SenderMode) (waiting : List (List ℕ)) → Before mode waiting
      → Goes mode waiting (sender.recover (of mode waiting) mode) (step.Recover Sender ∷ [])
  recovers sending.Down waiting none =
      moves-to
      (calls (At sending.Down waiting) (step.Recover Sender) tt)
      (state-eq _ _ (rw (none, received_unless_sending (sending.Quiet false) at from_sender (λ id. refl)) refl) refl refl refl refl)
  recovers (sending.Quiet got) waiting facts = calls (At (sending.Quiet got) waiting) (step.Recover Sender) tt
  recovers (sending.NeedId jd m) waiting facts = calls (At (sending.NeedId jd m) waiting) (step.Recover Sender) tt
  recovers (sending.Send id m) waiting facts = calls (At (sending.Send id m) waiting) (step.Recover Sender) tt

  -- a packet comes that the receiver emitted
  delivers : (mode : SenderMode) (waiting : List (List ℕ)) (stream : ℕ) (body : OwnedBody) → Before mode waiting
      → Contains from_receiver (record { stream = stream; body = body }) → Goes mode waiting (sender.deliver (of mode waiting) body) []
  delivers mode waiting stream (packet.Accept jd id) facts among =
      accepts n at from_sender from_receiver untaken mode waiting jd id facts
      (any-contains (IsAcceptFor jd id) from_receiver (record { stream = stream; body = packet.Accept jd id }) among (refl, refl))
  delivers mode waiting stream (packet.Ack id got) facts among =
      acks n at from_sender from_receiver untaken mode waiting id got facts
      (any-contains (IsAck id got) from_receiver (record { stream = stream; body = packet.Ack id got }) among (refl, refl))
  delivers mode waiting stream (packet.NeedUid jd) facts among = rw (untaken_unless_sent mode untaken) (stays _)
  delivers mode waiting stream (packet.Send id m) facts among = rw (untaken_unless_sent mode untaken) (stays _)
  delivers mode waiting stream (packet.Cleanup id) facts among = rw (untaken_unless_sent mode untaken) (stays _)
  delivers mode waiting stream (packet.Batch id b) facts among = rw (untaken_unless_sent mode untaken) (stays _)

-- each act of a sender but a crash moves the queue in doubt, with no mark set, and a client sees its call
pub sender_moves : (s : Stream) (a : Act) (r : Reply) → a ≢ act.Crash → Invariant s → WasEmitted s Sender a → IsNewWord s Sender a
    → reply_of s Sender a ≡ Some r
    → MovesUnmarking (view s) (option_to_list (call_of Sender a r)) (view (after s Sender a))
sender_moves s (act.Put m) r calm facts honest new is =
    puts s.sender.state.stream s.receiver.state.mode s.sender.emitted s.receiver.emitted s.untaken s.sender.state.mode s.sender.state.waiting m r is
sender_moves s act.Get r calm facts honest new is = cc
sender_moves s act.Ack r calm facts honest new is =
    gets_ack s.sender.state.stream s.receiver.state.mode s.sender.emitted s.receiver.emitted s.untaken s.sender.state.mode s.sender.state.waiting r is
sender_moves s (act.Start word) r calm facts honest new is =
    starts s.sender.state.stream s.receiver.state.mode s.sender.emitted s.receiver.emitted s.untaken s.sender.state.mode s.sender.state.waiting
    s.sender.words word facts.packets facts.needuid_words new
sender_moves s (act.Batch word) r calm facts honest new is =
    starts_batch s.sender.state.stream s.receiver.state.mode s.sender.emitted s.receiver.emitted s.untaken s.sender.state.mode s.sender.state.waiting
    s.sender.words word facts.packets facts.needuid_words new
sender_moves s act.Resend r calm facts honest new is =
    resends s.sender.state.stream s.receiver.state.mode s.sender.emitted s.receiver.emitted s.untaken s.sender.state.mode s.sender.state.waiting
    facts.packets facts.sender
sender_moves s (act.Deliver p word) r calm facts honest new is =
    delivers s.sender.state.stream s.receiver.state.mode s.sender.emitted s.receiver.emitted s.untaken s.sender.state.mode s.sender.state.waiting
    p.stream p.body facts.sender honest
sender_moves s act.Crash r calm facts honest new is = absurd (calm refl)
sender_moves s act.Recover r calm facts honest new is =
    recovers s.sender.state.stream s.receiver.state.mode s.sender.emitted s.receiver.emitted s.untaken s.sender.state.mode s.sender.state.waiting
    facts.sender
