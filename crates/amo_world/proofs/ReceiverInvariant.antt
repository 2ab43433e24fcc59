-- The invariant is kept by each row of the receiver's table.
use Rattle.std.proofs.Common.{◌≡◌, ℕ, Bool, true, false, Option, None, IfSome, List, [], ◌∷◌, ◌++◌, refl, sym, ◌∙◌, subst, inl, inr, ⊎_elim}
use Rattle.std.specs.List.{Contains}
use Rattle.std.specs.Option.{option_to_list}
use Rattle.std.proofs.lemmas.Bool.Decides.{eqb_tells}
use Rattle.amo_object.specs.declared.step.End.TheVariants.{Receiver}
use Rattle.amo_packet.specs.declared.packet.OwnedPacket.{OwnedPacket}
use Rattle.amo_packet.specs.declared.packet.OwnedBody.{OwnedBody}
use Rattle.amo_packet.specs.declared.packet.OwnedBody.TheVariants as packet
use Rattle.amo_packet.specs.Batch.{Batch, alone, messages}
use Rattle.amo_core.specs.declared.act.Act.{Act}
use Rattle.amo_core.specs.declared.act.Act.TheVariants as act
use Rattle.amo_core.specs.Row.{Row}
use Rattle.amo_core.specs.Receiver as receiver
use Rattle.amo_core.specs.declared.sender.SenderMode.{SenderMode}
use Rattle.amo_core.specs.declared.receiver.ReceiverMode.{ReceiverMode}
use Rattle.amo_core.specs.declared.receiver.ReceiverMode.TheVariants.{Idle, Accept, Rcvd, Ack, Down}
use Rattle.amo_world.specs.Stream.{Stream, after, untaken_once_got}
use Rattle.amo_world.specs.History.{WasEmitted, IsNewWord}
use Rattle.amo_world.specs.View.{has}
use Rattle.amo_world.proofs.Lists.{contains_first, contains_other}
use Rattle.amo_world.proofs.Packets.{Any, IsNeeduid, IsAcceptFor, IsAccept, IsSend, IsPastAccept, any-contains, accepted, send_is_past}
use Rattle.amo_world.proofs.Invariant.{PacketFacts, SenderFacts, ReceiverFacts, InvariantAt, Invariant}
use Rattle.amo_world.proofs.Untaken.{TakesNothing, untaken_unless_got}
use Rattle.amo_world.proofs.KnownOfSender.{known_without, known_taken, known_got, known_accept, known_accept_again, known_lost, known_acked}

-- the facts of the packets hold once the receiver emitted one more: an accept of what was asked for, for one needuid, or an ack of what
-- was accepted
packets_more : (p : OwnedPacket) (from_sender from_receiver : List OwnedPacket) → PacketFacts from_sender from_receiver
    → ((jd id : ℕ) → IsAcceptFor jd id p.body → Any (IsNeeduid jd) from_sender)
    → ((jd other id : ℕ) → IsAcceptFor jd id p.body → Any (IsAcceptFor other id) (p ∷ from_receiver) → jd ≡ other)
    → ((id : ℕ) → IsPastAccept id p.body → Any (IsAccept id) from_receiver) → PacketFacts from_sender (p ∷ from_receiver)
packets_more p from_sender from_receiver f asked same named = record {
  asked = λ jd id. ⊎_elim (asked jd id) (f.asked jd id);
  one_needuid = one;
  accepted_first = λ id name. inr (f.accepted_first id name);
  accepted_before = λ id. ⊎_elim (λ now. inr (named id now)) (λ earlier. inr (f.accepted_before id earlier));
  one_message = f.one_message;
}
  where
    one : (jd other id : ℕ) → Any (IsAcceptFor jd id) (p ∷ from_receiver) → Any (IsAcceptFor other id) (p ∷ from_receiver) → jd ≡ other
    one jd other id (inl now) more = same jd other id now more
    one jd other id (inr earlier) (inl now) = sym (same other jd id now (inr earlier))
    one jd other id (inr earlier) (inr more) = f.one_needuid jd other id earlier more

-- what a receiver has it has accepted, also once it emitted one packet more
receiver_on : (p : OwnedPacket) (at : ReceiverMode) (from_receiver : List OwnedPacket) → ReceiverFacts at from_receiver
    → ReceiverFacts at (p ∷ from_receiver)
receiver_on p Idle from_receiver f = tt
receiver_on p (Accept jd id) from_receiver f = inr f
receiver_on p (Rcvd id b) from_receiver f = inr f
receiver_on p (Ack id) from_receiver f = inr f
receiver_on p Down from_receiver f = tt

module _ (n : ℕ) (mode : SenderMode) (waiting : List (List ℕ)) (from_sender from_receiver : List OwnedPacket) (untaken : List (List ℕ))
    (sender_words receiver_words : List ℕ) where
  -- a packet of the stream
  abbrev bears : OwnedBody → OwnedPacket
  bears body = record { stream = n; body = body }

  -- a receiver in this mode
  abbrev state : ReceiverMode → receiver.ReceiverState
  state at = record { stream = n; mode = at }

  -- the facts before an act of a receiver in this mode
  abbrev Before : ReceiverMode → Type 0
  Before at = InvariantAt mode waiting at from_sender from_receiver untaken sender_words receiver_words

  -- the facts after an act that is no get, of this row, which used up this word, if any
  abbrev After : Row receiver.ReceiverState → Option ℕ → Type 0
  After row word =
      InvariantAt mode waiting row.state.mode from_sender (option_to_list row.emitted ++ from_receiver) untaken sender_words
      (option_to_list word ++ receiver_words)

  -- the facts hold in another mode, with what is known of both sides then
  with_receiver : (at now : ReceiverMode) → Before at → SenderFacts mode waiting now from_sender from_receiver untaken
      → ReceiverFacts now from_receiver → Before now
  with_receiver at now f s r =
      record { packets = f.packets; sender = s; receiver = r; needuid_words = f.needuid_words; accept_words = f.accept_words }

  -- the facts hold once the receiver forgets what it has, and is at rest
  rests : (at : ReceiverMode) → Before at → Before Idle
  rests at f =
      with_receiver at Idle f
      (known_without waiting from_sender from_receiver untaken mode at Idle (λ id is. is) (λ id. refl) (λ id m. tt) f.sender) tt

  -- the facts hold once the receiver's host crashes
  crashes : (at : ReceiverMode) → Before at → Before Down
  crashes at f =
      with_receiver at Down f
      (known_without waiting from_sender from_receiver untaken mode at Down (λ id is. is) (λ id. refl) (λ id m. tt) f.sender) tt

  -- the facts hold once the receiver at rest accepts a new word for a needuid that came
  accepts_new : (jd word : ℕ) → Before Idle → Any (IsNeeduid jd) from_sender → ¬ (Contains receiver_words word)
      → InvariantAt mode waiting (Accept jd word) from_sender (bears (packet.Accept jd word) ∷ from_receiver) untaken sender_words
      (word ∷ receiver_words)
  accepts_new jd word f ask new = record {
    packets =
        packets_more (bears (packet.Accept jd word)) from_sender from_receiver f.packets
        (λ other id is. subst (λ x. Any (IsNeeduid x) from_sender) is.0 ask) one (λ id is. absurd is);
    sender =
        known_accept waiting from_sender from_receiver untaken mode n jd word
        (λ name. new (f.accept_words word (f.packets.accepted_first word name)))
        (λ name. new (f.accept_words word (f.packets.accepted_before word name))) f.sender;
    receiver = inl (refl, refl);
    needuid_words = f.needuid_words;
    accept_words =
        λ id. ⊎_elim (λ same. subst (Contains (word ∷ receiver_words)) same (contains_first word receiver_words))
        (λ earlier. contains_other word receiver_words id (f.accept_words id earlier));
  }
    where
      one : (a b id : ℕ) → (jd ≡ a) × (word ≡ id) → Any (IsAcceptFor b id) (bears (packet.Accept jd word) ∷ from_receiver) → a ≡ b
      one a b id is (inl now) = sym is.0 ∙ now.0
      one a b id is (inr earlier) =
          absurd (new (f.accept_words word (accepted b word from_receiver
          (subst (λ x. Any (IsAcceptFor b x) from_receiver) (sym is.1) earlier))))

  -- the facts hold once the receiver makes its accept again
  accepts_again : (wanted jd id : ℕ) → wanted ≡ jd → Before (Accept wanted id)
      → InvariantAt mode waiting (Accept wanted id) from_sender
      (bears (packet.Accept jd id) ∷ from_receiver) untaken sender_words receiver_words
  accepts_again wanted jd id same f =
      let accept : Any (IsAcceptFor jd id) from_receiver = subst (λ x. Any (IsAcceptFor x id) from_receiver) same f.receiver in record {
        packets = packets_more (bears (packet.Accept jd id)) from_sender from_receiver f.packets
            (λ a other is. subst (λ x. Any (IsNeeduid x) from_sender) is.0 (f.packets.asked jd id accept))
            (λ a b other is. ⊎_elim (λ now. sym is.0 ∙ now.0)
            (λ earlier. sym is.0 ∙ f.packets.one_needuid jd b id accept (subst (λ x. Any (IsAcceptFor b x) from_receiver) (sym is.1) earlier)))
            (λ other is. absurd is);
        sender = known_accept_again waiting from_sender from_receiver untaken mode (Accept wanted id) n jd id accept f.sender;
        receiver = inr f.receiver;
        needuid_words = f.needuid_words;
        accept_words =
            λ other. ⊎_elim (λ now. subst (Contains receiver_words) now (f.accept_words id (accepted jd id from_receiver accept)))
            (f.accept_words other);
      }

  -- the facts hold once the receiver acks an identifier that was accepted, with what is known of the sender then
  acks : (at : ReceiverMode) (id : ℕ) (got : Bool) → Before at → Any (IsAccept id) from_receiver
      → SenderFacts mode waiting at from_sender (bears (packet.Ack id got) ∷ from_receiver) untaken
      → InvariantAt mode waiting at from_sender (bears (packet.Ack id got) ∷ from_receiver) untaken sender_words receiver_words
  acks at id got f accept s = record {
    packets =
        packets_more (bears (packet.Ack id got)) from_sender from_receiver f.packets (λ jd other is. absurd is)
        (λ a b other is. absurd is) (λ other same. subst (λ x. Any (IsAccept x) from_receiver) same accept);
    sender = s;
    receiver = receiver_on (bears (packet.Ack id got)) at from_receiver f.receiver;
    needuid_words = f.needuid_words;
    accept_words = λ other. ⊎_elim (λ is. absurd is) (f.accept_words other);
  }

  -- the facts hold once the receiver acks that nothing was got under an identifier that it does not have
  acks_lost : (at : ReceiverMode) (id : ℕ) (m : List (List ℕ)) → Before at → Any (IsSend id m) from_sender → has at id ≡ false
      → InvariantAt mode waiting at from_sender (bears (packet.Ack id false) ∷ from_receiver) untaken sender_words receiver_words
  acks_lost at id m f came lacks = let name : Any (IsPastAccept id) from_sender = send_is_past id m from_sender came in
      acks at id false f (f.packets.accepted_first id name)
      (known_lost waiting from_sender from_receiver untaken mode at n id name lacks f.sender)

  -- the facts hold once the receiver acks that its client took the message of the identifier that it has
  acks_got : (under id : ℕ) → under ≡ id → Before (Ack under)
      → InvariantAt mode waiting (Ack under) from_sender (bears (packet.Ack id true) ∷ from_receiver) untaken sender_words receiver_words
  acks_got under id same f =
      acks (Ack under) id true f (subst (λ x. Any (IsAccept x) from_receiver) same f.receiver)
      (known_acked waiting from_sender from_receiver untaken mode n under id same f.sender)

  -- the facts hold after a needuid comes
  needuid_keeps : (at : ReceiverMode) (jd word : ℕ) → Before at → Any (IsNeeduid jd) from_sender
      → IfSome (receiver.accepted_word at (packet.NeedUid jd) word) (λ w. ¬ (Contains receiver_words w))
      → After (receiver.needuid (state at) at jd word) (receiver.accepted_word at (packet.NeedUid jd) word)
  needuid_keeps Idle jd word f ask new = accepts_new jd word f ask new
  needuid_keeps (Accept wanted id) jd word f ask new = elim (eqb_tells wanted jd) [
    | inl h ↦ rw h.0 (accepts_again wanted jd id h.1 f)
    | inr h ↦ rw h.0 f
  ]
  needuid_keeps (Rcvd id b) jd word f ask new = f
  needuid_keeps (Ack id) jd word f ask new = f
  needuid_keeps Down jd word f ask new = f

  -- the facts hold after a batch comes, and so after a send
  batch_keeps : (at : ReceiverMode) (id : ℕ) (b : Batch) → Before at → Any (IsSend id (messages b)) from_sender
      → After (receiver.batch (state at) at id b) None
  batch_keeps Idle id b f came = acks_lost Idle id (messages b) f came refl
  batch_keeps (Accept jd given) id b f came = elim (eqb_tells given id) [
    | inl h ↦ rw h.0 (takes (subst (λ x. Before (Accept jd x)) h.1 f))
    | inr h ↦ rw h.0 (acks_lost (Accept jd given) id (messages b) f came h.0)
  ]
    where
      takes : Before (Accept jd id) → Before (Rcvd id b)
      takes g =
          with_receiver (Accept jd id) (Rcvd id b) g
          (known_taken waiting from_sender from_receiver untaken mode jd id b g.packets came g.sender)
          (accepted jd id from_receiver g.receiver)
  batch_keeps (Rcvd under held) id b f came = elim (eqb_tells under id) [
    | inl h ↦ rw h.0 f
    | inr h ↦ rw h.0 (acks_lost (Rcvd under held) id (messages b) f came h.0)
  ]
  batch_keeps (Ack under) id b f came = elim (eqb_tells under id) [
    | inl h ↦ rw h.0 (acks_got under id h.1 f)
    | inr h ↦ rw h.0 (acks_lost (Ack under) id (messages b) f came h.0)
  ]
  batch_keeps Down id b f came = f

  -- a send and a batch use up no word
  no_word : (at : ReceiverMode) (id : ℕ) (m : List ℕ) (word : ℕ) → receiver.accepted_word at (packet.Send id m) word ≡ None
  no_word Idle id m word = refl
  no_word at id m word = refl

  no_word_of_batch : (at : ReceiverMode) (id : ℕ) (b : Batch) (word : ℕ) → receiver.accepted_word at (packet.Batch id b) word ≡ None
  no_word_of_batch Idle id b word = refl
  no_word_of_batch at id b word = refl

  -- the facts hold after a cleanup comes
  cleanup_keeps : (at : ReceiverMode) (id word : ℕ) → Before at
      → After (receiver.cleanup (state at) at id) (receiver.accepted_word at (packet.Cleanup id) word)
  cleanup_keeps Idle id word f = f
  cleanup_keeps (Accept jd given) id word f = elim (eqb_tells given id) [
    | inl h ↦ rw h.0 (rests (Accept jd given) f)
    | inr h ↦ rw h.0 f
  ]
  cleanup_keeps (Rcvd under held) id word f = f
  cleanup_keeps (Ack under) id word f = elim (eqb_tells under id) [
    | inl h ↦ rw h.0 (rests (Ack under) f)
    | inr h ↦ rw h.0 f
  ]
  cleanup_keeps Down id word f = f

  -- the facts hold after an accept comes, which belongs to a sender
  accept_keeps : (at : ReceiverMode) (jd id word : ℕ) → Before at
      → After (receiver.quietly (state at)) (receiver.accepted_word at (packet.Accept jd id) word)
  accept_keeps Idle jd id word f = f
  accept_keeps at jd id word f = f

  -- the facts hold after an ack comes, which belongs to a sender
  ack_keeps : (at : ReceiverMode) (id : ℕ) (got : Bool) (word : ℕ) → Before at
      → After (receiver.quietly (state at)) (receiver.accepted_word at (packet.Ack id got) word)
  ack_keeps Idle id got word f = f
  ack_keeps at id got word f = f

  -- the facts hold after a packet comes, if all that holds of it holds of one that the sender emitted
  deliver_keeps : (at : ReceiverMode) (body : OwnedBody) (word : ℕ) → Before at → ((P : OwnedBody → Type 0) → P body → Any P from_sender)
      → IfSome (receiver.accepted_word at body word) (λ w. ¬ (Contains receiver_words w))
      → After (receiver.deliver (state at) body word) (receiver.accepted_word at body word)
  deliver_keeps at (packet.NeedUid jd) word f said new = needuid_keeps at jd word f (said (IsNeeduid jd) refl) new
  deliver_keeps at (packet.Accept jd id) word f said new = accept_keeps at jd id word f
  deliver_keeps at (packet.Send id m) word f said new =
      rw (no_word at id m word) (batch_keeps at id (alone m) f (said (IsSend id (m ∷ [])) (refl, refl)))
  deliver_keeps at (packet.Batch id b) word f said new =
      rw (no_word_of_batch at id b word) (batch_keeps at id b f (said (IsSend id (messages b)) (refl, refl)))
  deliver_keeps at (packet.Ack id got) word f said new = ack_keeps at id got word f
  deliver_keeps at (packet.Cleanup id) word f said new = cleanup_keeps at id word f

  -- the facts hold after a resend
  resend_keeps : (at : ReceiverMode) → Before at → After (receiver.resend (state at) at) None
  resend_keeps Idle f = f
  resend_keeps (Accept jd id) f = accepts_again jd jd id refl f
  resend_keeps (Rcvd id b) f = f
  resend_keeps (Ack id) f = acks_got id id refl f
  resend_keeps Down f = f

  -- the facts hold after the host recovers
  recover_keeps : (at : ReceiverMode) → Before at → After (receiver.recover (state at) at) None
  recover_keeps Idle f = f
  recover_keeps (Accept jd id) f = f
  recover_keeps (Rcvd id b) f = f
  recover_keeps (Ack id) f = f
  recover_keeps Down f = rests Down f

  -- the facts hold of what is untaken after an act that takes no message
  with_untaken : (at now : ReceiverMode) (a : Act) (packets : List OwnedPacket) (words : List ℕ) → TakesNothing a at
      → InvariantAt mode waiting now from_sender packets untaken sender_words words
      → InvariantAt mode waiting now from_sender packets (untaken_once_got a mode at untaken) sender_words words
  with_untaken at now a packets words nothing f =
      subst (λ (t : List (List ℕ)). InvariantAt mode waiting now from_sender packets t sender_words words)
      (sym (untaken_unless_got mode at a untaken nothing)) f

  -- the facts hold after a get
  get_keeps : (at : ReceiverMode) → Before at → (let row = receiver.get (state at) at in
      InvariantAt mode waiting row.state.mode from_sender (option_to_list row.emitted ++ from_receiver)
      (untaken_once_got act.Get mode at untaken) sender_words receiver_words)
  get_keeps Idle f = with_untaken Idle Idle act.Get from_receiver receiver_words tt f
  get_keeps (Accept jd id) f = with_untaken (Accept jd id) (Accept jd id) act.Get from_receiver receiver_words tt f
  get_keeps (Rcvd id b) f = record {
    packets = f.packets;
    sender = known_got waiting from_sender from_receiver untaken mode id b.first b.rest f.sender;
    receiver = with_rest_accepted id b.rest f.receiver;
    needuid_words = f.needuid_words;
    accept_words = f.accept_words;
  }
    where
      with_rest_accepted : (id : ℕ) (rest : List (List ℕ)) → Any (IsAccept id) from_receiver → ReceiverFacts (receiver.with_rest id rest) from_receiver
      with_rest_accepted id [] f = f
      with_rest_accepted id (m ∷ rest) f = f
  get_keeps (Ack id) f = with_untaken (Ack id) (Ack id) act.Get from_receiver receiver_words tt f
  get_keeps Down f = with_untaken Down Down act.Get from_receiver receiver_words tt f

  -- a packet that comes was emitted by the sender
  abbrev CameFromOther : Act → Type 0
  CameFromOther (act.Deliver p word) = Contains from_sender p
  CameFromOther _ = Unit {0}

  -- the facts hold after each row of the table
  row_keeps : (at : ReceiverMode) (a : Act) → Before at → CameFromOther a
      → IfSome (receiver.used_word (state at) a) (λ word. ¬ (Contains receiver_words word)) → (let row = receiver.row (state at) a in
      InvariantAt mode waiting row.state.mode from_sender (option_to_list row.emitted ++ from_receiver)
      (untaken_once_got a mode at untaken) sender_words (option_to_list (receiver.used_word (state at) a) ++ receiver_words))
  row_keeps at (act.Put m) f came new = with_untaken at _ (act.Put m) _ _ tt f
  row_keeps at act.Get f came new = get_keeps at f
  row_keeps at act.Ack f came new = with_untaken at _ act.Ack _ _ tt f
  row_keeps at (act.Start word) f came new = with_untaken at _ (act.Start word) _ _ tt f
  row_keeps at (act.Batch word) f came new = with_untaken at _ (act.Batch word) _ _ tt f
  row_keeps at act.Resend f came new = with_untaken at _ act.Resend _ _ tt (resend_keeps at f)
  row_keeps at (act.Deliver p word) f came new =
      with_untaken at _ (act.Deliver p word) _ _ tt (deliver_keeps at p.body word f (λ P is. any-contains P from_sender p came is) new)
  row_keeps at act.Crash f came new = with_untaken at _ act.Crash _ _ tt (crashes at f)
  row_keeps at act.Recover f came new = with_untaken at _ act.Recover _ _ tt (recover_keeps at f)

-- the facts of a stream hold after each act of its receiver that is honest and fresh
pub receiver_keeps : (s : Stream) (a : Act) → Invariant s → WasEmitted s Receiver a → IsNewWord s Receiver a
    → Invariant (after s Receiver a)
receiver_keeps s a f emitted new =
    row_keeps s.receiver.state.stream s.sender.state.mode s.sender.state.waiting s.sender.emitted s.receiver.emitted s.untaken
    s.sender.words s.receiver.words s.receiver.state.mode a f emitted new
