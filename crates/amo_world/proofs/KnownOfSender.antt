-- The invariant of the sender's mode is kept where the receiver has another mode, or emitted one packet more.
use Rattle.std.proofs.Common.{◌≡◌, ℕ, true, false, List, [], ◌∷◌, refl, sym, ◌∙◌, subst, ap, inl, inr, ⊎_elim}
use Rattle.std.proofs.lemmas.Bool.{ne_eqb}
use Rattle.std.proofs.lemmas.Bool.Decides.{eqb_tells}
use Rattle.amo_packet.specs.declared.packet.OwnedPacket.{OwnedPacket}
use Rattle.amo_packet.specs.declared.packet.OwnedBody.TheVariants as packet
use Rattle.amo_packet.specs.Batch.{Batch, batch, messages}
use Rattle.amo_core.specs.declared.act.Act.TheVariants.{Get}
use Rattle.amo_core.specs.Receiver.{with_rest}
use Rattle.amo_core.specs.Sender.{messages_in}
use Rattle.amo_core.specs.declared.sender.SenderMode.{SenderMode}
use Rattle.amo_core.specs.declared.sender.SenderMode.TheVariants as sending
use Rattle.amo_core.specs.declared.receiver.ReceiverMode.{ReceiverMode}
use Rattle.amo_core.specs.declared.receiver.ReceiverMode.TheVariants.{Idle, Accept, Rcvd, Ack}
use Rattle.amo_world.specs.Stream.{untaken_once_got}
use Rattle.amo_world.specs.View.{has}
use Rattle.amo_world.proofs.Packets.{Any, IsAcceptFor, IsSend, IsAck, IsPastAccept, send_is_past, ack_is_past}
use Rattle.amo_world.proofs.Invariant.{PacketFacts, Took, IsUntouched, AskingFacts, Untaken, SendingFacts, SenderFacts}

-- a sender that asks asks on, once its receiver has another mode, under which it holds nothing of an untouched identifier
asks_at : (jd : ℕ) (at now : ReceiverMode) (from_sender from_receiver : List OwnedPacket) → AskingFacts jd at from_sender from_receiver
    → ((id : ℕ) → IsUntouched id at from_sender from_receiver → Took now id → ⊥)
    → AskingFacts jd now from_sender from_receiver
asks_at jd at now from_sender from_receiver f not_taken = record {
  asked = f.asked;
  untouched =
      λ id accept. let u : IsUntouched id at from_sender from_receiver =
      f.untouched id accept in record {
        sender_not_past = u.sender_not_past;
        receiver_not_past = u.receiver_not_past;
        not_taken = not_taken id u;
      };
}

-- it asks on, once the receiver emitted one packet more, which is no new accept for its needuid and acks no identifier accepted for it
asks_on : (p : OwnedPacket) (jd : ℕ) (at : ReceiverMode) (from_sender from_receiver : List OwnedPacket)
    → AskingFacts jd at from_sender from_receiver → ((id : ℕ) → IsAcceptFor jd id p.body → Any (IsAcceptFor jd id) from_receiver)
    → ((id : ℕ) → Any (IsAcceptFor jd id) from_receiver → IsPastAccept id p.body → ⊥) → AskingFacts jd at from_sender (p ∷ from_receiver)
asks_on p jd at from_sender from_receiver f old apart = record {
  asked = f.asked;
  untouched = λ id. ⊎_elim (λ now. still id (old id now)) (still id);
}
  where
    still : (id : ℕ) → Any (IsAcceptFor jd id) from_receiver → IsUntouched id at from_sender (p ∷ from_receiver)
    still id accept =
        let u : IsUntouched id at from_sender from_receiver = f.untouched id accept in
        record {
          sender_not_past = u.sender_not_past;
          receiver_not_past = ⊎_elim (apart id accept) u.receiver_not_past;
          not_taken = u.not_taken;
        }

-- a sender that sends a message sends on, once the receiver emitted one packet more, which acks its identifier, if it does, what is so
sends_on : (p : OwnedPacket) (id : ℕ) (m : List (List ℕ)) (at : ReceiverMode) (from_sender from_receiver : List OwnedPacket)
    (untaken : List (List ℕ)) → SendingFacts id m at from_sender from_receiver untaken
    → (IsAck id true p.body → untaken ≡ []) → (IsAck id false p.body → has at id ≡ false)
    → SendingFacts id m at from_sender (p ∷ from_receiver) untaken
sends_on p id m at from_sender from_receiver untaken f got lost = record {
  was_sent = f.was_sent;
  no_cleanup = f.no_cleanup;
  if_got = ⊎_elim got f.if_got;
  if_lost = ⊎_elim lost f.if_lost;
  untaken_is = f.untaken_is;
}

module _ (waiting : List (List ℕ)) (from_sender from_receiver : List OwnedPacket) (untaken : List (List ℕ)) where
  -- what is known of the sender while the receiver has this mode
  abbrev Known : SenderMode → ReceiverMode → Type 0
  Known mode at = SenderFacts mode waiting at from_sender from_receiver untaken

  -- and once the receiver emitted this packet too
  abbrev KnownWith : SenderMode → ReceiverMode → OwnedPacket → Type 0
  KnownWith mode at p = SenderFacts mode waiting at from_sender (p ∷ from_receiver) untaken

  -- it is known once the receiver has a mode under which it has nothing
  pub known_without : (mode : SenderMode) (at now : ReceiverMode) → ((id : ℕ) → Took now id → ⊥) → ((id : ℕ) → has now id ≡ false)
      → ((id : ℕ) (sent : List (List ℕ)) → Untaken now id sent untaken)
      → Known mode at → Known mode now
  known_without (sending.Quiet got) at now none lacks all f = tt
  known_without (sending.NeedId jd load) at now none lacks all f = asks_at jd at now from_sender from_receiver f (λ id u. none id)
  known_without (sending.Send id load) at now none lacks all f =
      record { was_sent = f.was_sent; no_cleanup = f.no_cleanup; if_got = f.if_got; if_lost = λ ack. lacks id; untaken_is = all id (messages_in load) }
  known_without sending.Down at now none lacks all f = f

  -- it is known once the receiver took the messages that were sent under the identifier that it accepted
  pub known_taken : (mode : SenderMode) (jd id : ℕ) (b : Batch) → PacketFacts from_sender from_receiver → Any (IsSend id (messages b)) from_sender
      → Known mode (Accept jd id) → Known mode (Rcvd id b)
  known_taken (sending.Quiet got) jd id b packets came f = tt
  known_taken (sending.NeedId wanted load) jd id b packets came f =
      asks_at wanted (Accept jd id) (Rcvd id b) from_sender from_receiver f
      (λ other u same. u.sender_not_past
      (send_is_past other (messages b) from_sender (subst (λ x. Any (IsSend x (messages b)) from_sender) same came)))
  known_taken (sending.Send under load) jd id b packets came f = record {
    was_sent = f.was_sent;
    no_cleanup = f.no_cleanup;
    if_got = f.if_got;
    if_lost = f.if_lost;
    untaken_is =
        λ same. f.untaken_is same
        ∙ packets.one_message under (messages_in load) (messages b) f.was_sent (subst (λ x. Any (IsSend x (messages b)) from_sender) same came);
  }
  known_taken sending.Down jd id b packets came f = f

  -- it is known once the receiver's client took the first message that the receiver holds
  pub known_got : (mode : SenderMode) (id : ℕ) (m : List ℕ) (rest : List (List ℕ)) → Known mode (Rcvd id (batch m rest))
      → SenderFacts mode waiting (with_rest id rest) from_sender from_receiver (untaken_once_got Get mode (Rcvd id (batch m rest)) untaken)
  known_got (sending.Quiet got) id m rest f = tt
  known_got (sending.NeedId wanted load) id m [] f =
      asks_at wanted (Rcvd id (batch m [])) (Ack id) from_sender from_receiver f (λ other u. u.not_taken)
  known_got (sending.NeedId wanted load) id m (n ∷ rest) f =
      asks_at wanted (Rcvd id (batch m (n ∷ rest))) (Rcvd id (batch n rest)) from_sender from_receiver f (λ other u. u.not_taken)
  known_got (sending.Send under load) id m [] f = elim (eqb_tells id under) [
    | inl h ↦
        rw h.0 (record {
          was_sent = f.was_sent;
          no_cleanup = f.no_cleanup;
          if_got = λ ack. refl;
          if_lost = f.if_lost;
          untaken_is = λ same. refl;
        })
    | inr h ↦
        rw h.0 (record {
          was_sent = f.was_sent;
          no_cleanup = f.no_cleanup;
          if_got = f.if_got;
          if_lost = f.if_lost;
          untaken_is = λ same. absurd (h.1 same);
        })
  ]
  known_got (sending.Send under load) id m (n ∷ rest) f = elim (eqb_tells id under) [
    | inl h ↦
        rw h.0 (record {
          was_sent = f.was_sent;
          no_cleanup = f.no_cleanup;
          if_got = λ ack. absurd (not_taken_yet (sym (f.if_got ack) ∙ f.untaken_is h.1));
          if_lost = f.if_lost;
          untaken_is = λ same. refl;
        })
    | inr h ↦
        rw h.0 (record {
          was_sent = f.was_sent;
          no_cleanup = f.no_cleanup;
          if_got = f.if_got;
          if_lost = f.if_lost;
          untaken_is = λ same. absurd (h.1 same);
        })
  ]
    where
      not_taken_yet : [] ≡ m ∷ n ∷ rest → ⊥
      not_taken_yet e = cc
  known_got sending.Down id m rest f = f

  -- it is known once the receiver accepts an identifier that no packet bears yet
  pub known_accept : (mode : SenderMode) (n jd word : ℕ) → (Any (IsPastAccept word) from_sender → ⊥)
      → (Any (IsPastAccept word) from_receiver → ⊥) → Known mode Idle
      → KnownWith mode (Accept jd word) (record { stream = n; body = packet.Accept jd word })
  known_accept (sending.Quiet got) n jd word sender_not_past receiver_not_past f = tt
  known_accept (sending.NeedId wanted load) n jd word sender_not_past receiver_not_past f = record {
    asked = f.asked;
    untouched = λ id. ⊎_elim
        (λ now. subst (λ x. IsUntouched x (Accept jd word) from_sender (p ∷ from_receiver)) now.1
        (still word sender_not_past receiver_not_past))
        (λ earlier.
        let u : IsUntouched id Idle from_sender from_receiver = f.untouched id earlier in
        still id u.sender_not_past u.receiver_not_past);
  }
    where
      p : OwnedPacket
      p = record { stream = n; body = packet.Accept jd word }

      still : (id : ℕ) → (Any (IsPastAccept id) from_sender → ⊥) → (Any (IsPastAccept id) from_receiver → ⊥)
          → IsUntouched id (Accept jd word) from_sender (p ∷ from_receiver)
      still id none_sent none_received =
          record { sender_not_past = none_sent; receiver_not_past = ⊎_elim (λ is. is) none_received; not_taken = λ is. is }
  known_accept (sending.Send id load) n jd word sender_not_past receiver_not_past f = record {
    was_sent = f.was_sent;
    no_cleanup = f.no_cleanup;
    if_got = ⊎_elim (λ is. absurd is) f.if_got;
    if_lost =
        ⊎_elim (λ is. absurd is)
        (λ ack. ne_eqb word id
        (λ same. receiver_not_past (ack_is_past word false from_receiver (subst (λ x. Any (IsAck x false) from_receiver) (sym same) ack))));
    untaken_is =
        λ same. absurd
        (sender_not_past
        (send_is_past word (messages_in load) from_sender (subst (λ x. Any (IsSend x (messages_in load)) from_sender) (sym same) f.was_sent)));
  }
  known_accept sending.Down n jd word sender_not_past receiver_not_past f = f

  -- it is known once the receiver emits an accept again
  pub known_accept_again : (mode : SenderMode) (at : ReceiverMode) (n jd id : ℕ) → Any (IsAcceptFor jd id) from_receiver → Known mode at
      → KnownWith mode at (record { stream = n; body = packet.Accept jd id })
  known_accept_again (sending.Quiet got) at n jd id accept f = tt
  known_accept_again (sending.NeedId wanted load) at n jd id accept f =
      asks_on _ wanted at from_sender from_receiver f
      (λ other is. subst (λ x. Any (IsAcceptFor x other) from_receiver) is.0
      (subst (λ x. Any (IsAcceptFor jd x) from_receiver) is.1 accept)) (λ other old is. is)
  known_accept_again (sending.Send under load) at n jd id accept f =
      sends_on _ under (messages_in load) at from_sender from_receiver untaken f (λ is. absurd is) (λ is. absurd is)
  known_accept_again sending.Down at n jd id accept f = f

  -- it is known once the receiver acks that nothing was got under an identifier that it does not have any more
  pub known_lost : (mode : SenderMode) (at : ReceiverMode) (n id : ℕ) → Any (IsPastAccept id) from_sender → has at id ≡ false
      → Known mode at → KnownWith mode at (record { stream = n; body = packet.Ack id false })
  known_lost (sending.Quiet got) at n id name lacks f = tt
  known_lost (sending.NeedId wanted load) at n id name lacks f =
      asks_on _ wanted at from_sender from_receiver f (λ other is. absurd is)
      (λ other accept same. (f.untouched other accept).sender_not_past (subst (λ x. Any (IsPastAccept x) from_sender) same name))
  known_lost (sending.Send under load) at n id name lacks f =
      sends_on _ under (messages_in load) at from_sender from_receiver untaken f (λ is. let wrong : false ≡ true = is.1 in absurd cc)
      (λ is. subst (λ x. has at x ≡ false) is.0 lacks)
  known_lost sending.Down at n id name lacks f = f

  -- it is known once the receiver acks that its client took the message of the identifier that it has
  pub known_acked : (mode : SenderMode) (n under id : ℕ) → under ≡ id → Known mode (Ack under)
      → KnownWith mode (Ack under) (record { stream = n; body = packet.Ack id true })
  known_acked (sending.Quiet got) n under id same f = tt
  known_acked (sending.NeedId wanted load) n under id same f =
      asks_on _ wanted (Ack under) from_sender from_receiver f (λ other is. absurd is)
      (λ other accept is. (f.untouched other accept).not_taken (same ∙ is))
  known_acked (sending.Send sends load) n under id same f =
      sends_on _ sends (messages_in load) (Ack under) from_sender from_receiver untaken f (λ is. f.untaken_is (same ∙ is.0))
      (λ is. let wrong : true ≡ false = is.1 in absurd cc)
  known_acked sending.Down n under id same f = f
