-- What a sender hears of its puts is true, after each row of its table.
use Rattle.std.proofs.Common.{◌≡◌, ℕ, Bool, true, false, eqb, if◌then◌else◌, IfSome, List, ◌∷◌, refl, sym, subst, inl, inr, ◌⊎◌}
use Rattle.std.specs.List.{Contains}
use Rattle.std.proofs.lemmas.Bool.Decides.{eqb_tells}
use Rattle.std.proofs.lemmas.List.Elements.{Contains-append_left, Contains-append_cases}
use Rattle.amo_packet.specs.declared.packet.OwnedPacket.{OwnedPacket}
use Rattle.amo_packet.specs.declared.packet.OwnedBody.{OwnedBody}
use Rattle.amo_packet.specs.declared.packet.OwnedBody.TheVariants as packet
use Rattle.amo_core.specs.declared.act.Act.{Act}
use Rattle.amo_core.specs.declared.act.Act.TheVariants as act
use Rattle.amo_core.specs.declared.payload.Payload.{Payload}
use Rattle.amo_core.specs.Sender as sender
use Rattle.amo_core.specs.declared.sender.SenderMode.{SenderMode}
use Rattle.amo_core.specs.declared.sender.SenderMode.TheVariants as sending
use Rattle.amo_core.specs.declared.receiver.ReceiverMode.{ReceiverMode}
use Rattle.amo_core.specs.declared.receiver.ReceiverMode.TheVariants as receiving
use Rattle.amo_world.proofs.Packets.{Any, IsAcceptFor, IsAck, any-contains}
use Rattle.amo_world.proofs.Invariant.{Took}
use Rattle.amo_outcomes.specs.Puts.{Handshake, Puts, sent_under}
use Rattle.amo_outcomes.specs.Outcome.{arriving}
use Rattle.amo_outcomes.specs.Heard.{Heard, all_sent, heard_ack, heard_body, heard_act, hears, settles}
use Rattle.amo_outcomes.proofs.SenderRows.{OfRows, HoldOfChanges}
use Rattle.amo_outcomes.proofs.SenderOrder.{under_was_sent, same_mode, down_mode}
use Rattle.amo_outcomes.proofs.SenderTruth.{Taken, AskedAlone, TrueAt}

module _ (n : ℕ) (at : ReceiverMode) (from_receiver : List OwnedPacket) where
  -- where more was heard, which is true
  with_heard : (mode : SenderMode) (sent : List Handshake) (held got : List ℕ) (h more : Heard)
      → TrueAt mode at from_receiver sent held got h
      → ((put : ℕ) → Contains more.got put → Contains got put)
      → ((put : ℕ) → Contains more.settled put → Contains (arriving at sent held) put → ⊥)
      → TrueAt mode at from_receiver sent held got more
  with_heard mode sent held got h more t heard settled = record {
    acked = t.acked;
    lost = t.lost;
    taken = t.taken;
    asked = t.asked;
    got_was_sent = t.got_was_sent;
    heard_got = heard;
    heard_settled = settled;
  }

  -- in another mode
  with_mode : (mode now : SenderMode) (sent : List Handshake) (held got : List ℕ) (h : Heard)
      → TrueAt mode at from_receiver sent held got h → AskedAlone now at from_receiver sent held
      → TrueAt now at from_receiver sent held got h
  with_mode mode now sent held got h t asked = record {
    acked = t.acked;
    lost = t.lost;
    taken = t.taken;
    asked = asked;
    got_was_sent = t.got_was_sent;
    heard_got = t.heard_got;
    heard_settled = t.heard_settled;
  }

  -- an ack that the receiver emitted is true
  ack_truth : (mode : SenderMode) (sent : List Handshake) (held got : List ℕ) (h : Heard) (id : ℕ) (said : Bool)
      → TrueAt mode at from_receiver sent held got h → Any (IsAck id said) from_receiver
      → TrueAt mode at from_receiver sent held got (heard_ack said (sent_under sent id) h)
  ack_truth mode sent held got h id true t ack =
      with_heard mode sent held got h (heard_ack true (sent_under sent id) h) t
      (λ put c. elim (Contains-append_cases h.got (sent_under sent id) put c) [
        | inl before ↦ t.heard_got put before
        | inr now ↦ t.acked id put ack now
      ])
      t.heard_settled
  ack_truth mode sent held got h id false t ack =
      with_heard mode sent held got h (heard_ack false (sent_under sent id) h) t t.heard_got
      (λ put c. elim (Contains-append_cases h.settled (sent_under sent id) put c) [
        | inl before ↦ t.heard_settled put before
        | inr now ↦ t.lost id put ack now
      ])

  body_truth : (mode : SenderMode) (sent : List Handshake) (held got : List ℕ) (h : Heard) (body : OwnedBody)
      → TrueAt mode at from_receiver sent held got h → ((P : OwnedBody → Type 0) → P body → Any P from_receiver)
      → TrueAt mode at from_receiver sent held got (heard_body body sent h)
  body_truth mode sent held got h (packet.NeedUid jd) t said = t
  body_truth mode sent held got h (packet.Accept jd id) t said = t
  body_truth mode sent held got h (packet.Send id m) t said = t
  body_truth mode sent held got h (packet.Ack id got_there) t said = ack_truth mode sent held got h id got_there t (said (IsAck id got_there) (refl, refl))
  body_truth mode sent held got h (packet.Cleanup id) t said = t
  body_truth mode sent held got h (packet.Batch id b) t said = t

  -- a packet that comes was emitted by the receiver
  abbrev pub CameFromReceiver : Act → Type 0
  CameFromReceiver (act.Deliver p word) = Contains from_receiver p
  CameFromReceiver _ = Unit {0}

  act_truth : (mode : SenderMode) (sent : List Handshake) (held got : List ℕ) (h : Heard) (a : Act)
      → TrueAt mode at from_receiver sent held got h → CameFromReceiver a
      → TrueAt mode at from_receiver sent held got (heard_act a sent h)
  act_truth mode sent held got h (act.Deliver p word) t came =
      body_truth mode sent held got h p.body t (λ P is. any-contains P from_receiver p came is)
  act_truth mode sent held got h a t came = t

  -- what is heard by an act is true
  pub hearing_truth : (mode : SenderMode) (sent : List Handshake) (held got : List ℕ) (h : Heard) (a : Act)
      → TrueAt mode at from_receiver sent held got h → CameFromReceiver a
      → TrueAt mode at from_receiver sent held got (hears mode a sent h)
  hearing_truth sending.Down sent held got h a t came = t
  hearing_truth (sending.Quiet was) sent held got h a t came = act_truth (sending.Quiet was) sent held got h a t came
  hearing_truth (sending.NeedId jd load) sent held got h a t came = act_truth (sending.NeedId jd load) sent held got h a t came
  hearing_truth (sending.Send id load) sent held got h a t came = act_truth (sending.Send id load) sent held got h a t came

  -- what is asked for is sent under an identifier that nothing bore yet. Nothing arrived before, and so what was sent before is settled
  module _ (asked id : ℕ) (load : Payload) (sent : List Handshake) (carried held got : List ℕ) (h : Heard)
      (t : TrueAt (sending.NeedId asked load) at from_receiver sent held got h) (accept : Any (IsAcceptFor asked id) from_receiver)
      (not_past : (said : Bool) → Any (IsAck id said) from_receiver → ⊥) (not_taken : Took at id → ⊥)
      (apart : (put : ℕ) → Contains carried put → Contains (all_sent sent) put → ⊥) where
    -- what travels under another identifier travelled before
    before : (other put : ℕ) → (id ≡ other → ⊥) → Contains (sent_under (record { id = id; puts = carried } ∷ sent) other) put
        → Contains (sent_under sent other) put
    before other put differs c = by (eqb_tells id other) c
      where
        by : ((eqb id other ≡ true) × (id ≡ other)) ⊎ ((eqb id other ≡ false) × (id ≡ other → ⊥))
            → Contains (if eqb id other then carried else sent_under sent other) put → Contains (sent_under sent other) put
        by (inl e) c = absurd (differs e.1)
        by (inr e) c = subst (λ (b : Bool). Contains (if b then carried else sent_under sent other) put) e.0 c

    after : (other put : ℕ) → (id ≡ other → ⊥) → Contains (sent_under sent other) put
        → Contains (sent_under (record { id = id; puts = carried } ∷ sent) other) put
    after other put differs c = by (eqb_tells id other)
      where
        by : ((eqb id other ≡ true) × (id ≡ other)) ⊎ ((eqb id other ≡ false) × (id ≡ other → ⊥))
            → Contains (if eqb id other then carried else sent_under sent other) put
        by (inl e) = absurd (differs e.1)
        by (inr e) = subst (λ (b : Bool). Contains (if b then carried else sent_under sent other) put) (sym e.0) c

    -- only what is sent now arrives
    arrives : (put : ℕ) → Contains (arriving at (record { id = id; puts = carried } ∷ sent) held) put → Contains carried put
    arrives put = by at (t.asked id accept put)
      where
        either : (here : Bool) (others : List ℕ) → (Contains others put → ⊥) → Contains (if here then carried else others) put → Contains carried put
        either true others none c = c
        either false others none c = absurd (none c)

        by : (there : ReceiverMode) → (Contains (arriving there sent held) put → ⊥)
            → Contains (arriving there (record { id = id; puts = carried } ∷ sent) held) put → Contains carried put
        by receiving.Idle none c = absurd (none c)
        by (receiving.Accept jd given) none c = either (eqb id given) (sent_under sent given) none c
        by (receiving.Rcvd under b) none c = absurd (none c)
        by (receiving.Ack under) none c = absurd (none c)
        by receiving.Down none c = absurd (none c)

    taken : Taken at (record { id = id; puts = carried } ∷ sent) held got
    taken = by at not_taken t.taken
      where
        by : (there : ReceiverMode) → (Took there id → ⊥) → Taken there sent held got
            → Taken there (record { id = id; puts = carried } ∷ sent) held got
        by receiving.Idle none taken = tt
        by (receiving.Accept jd given) none taken = tt
        by (receiving.Rcvd under b) none taken = (
          λ put c. after under put (λ same. none (sym same)) (taken.0 put c),
          λ put c. taken.1 put (before under put (λ same. none (sym same)) c),
        )
        by (receiving.Ack under) none taken = λ put c. taken put (before under put (λ same. none (sym same)) c)
        by receiving.Down none taken = tt

    pub sends_truth : TrueAt (sending.Send id load) at from_receiver (record { id = id; puts = carried } ∷ sent) held got
        (record h { settled = all_sent sent })
    sends_truth = record {
      acked = λ other put ack c. t.acked other put ack (before other put (differs other true ack) c);
      lost = λ other put ack c there. apart put (arrives put there)
          (under_was_sent sent other put (before other put (differs other false ack) c));
      taken = taken;
      asked = tt;
      got_was_sent = λ put c. Contains-append_left (all_sent sent) carried put (t.got_was_sent put c);
      heard_got = t.heard_got;
      heard_settled = λ put c there. apart put (arrives put there) c;
    }
      where
        differs : (other : ℕ) (said : Bool) → Any (IsAck other said) from_receiver → id ≡ other → ⊥
        differs other said ack same = not_past said (subst (λ (x : ℕ). Any (IsAck x said) from_receiver) (sym same) ack)

  -- an identifier was not yet accepted for a word that is used up just now
  abbrev pub IsNewFor : SenderMode → List (List ℕ) → Act → Type 0
  IsNewFor mode waiting a =
      IfSome (sender.used_word (record { stream = n; mode = mode; waiting = waiting }) a)
      (λ w. (id : ℕ) → Any (IsAcceptFor w id) from_receiver → ⊥)

  -- of a sender that asks: what is given it was given to nobody yet
  abbrev pub AsksNew : SenderMode → Type 0
  AsksNew (sending.NeedId jd load) = (id : ℕ) → Any (IsAcceptFor jd id) from_receiver
      → ((said : Bool) → Any (IsAck id said) from_receiver → ⊥) × (Took at id → ⊥)
  AsksNew _ = Unit {0}

  -- what is carried was not sent yet
  abbrev pub CarriesNew : SenderMode → Puts → Type 0
  CarriesNew (sending.NeedId jd load) p = (put : ℕ) → Contains p.carried put → Contains (all_sent p.sent) put → ⊥
  CarriesNew _ p = Unit {0}

  abbrev pub KeepsTruth : OfRows
  KeepsTruth mode waiting p a r now left q =
      (h : Heard) → CameFromReceiver a → IsNewFor mode waiting a → AsksNew mode → CarriesNew mode p
      → TrueAt mode at from_receiver p.sent p.held p.got h → TrueAt now at from_receiver q.sent q.held q.got (settles mode now p.sent h)

  -- a sender in the same mode
  stays : (mode : SenderMode) (sent : List Handshake) (held got : List ℕ) (h : Heard) → TrueAt mode at from_receiver sent held got h
      → TrueAt mode at from_receiver sent held got (settles mode mode sent h)
  stays mode sent held got h t = subst (TrueAt mode at from_receiver sent held got) (sym (same_mode mode sent h)) t

  pub keeps_truth : HoldOfChanges KeepsTruth
  keeps_truth = record {
    stays = λ mode waiting p a r up same h came new asks carries t. stays mode p.sent p.held p.got h t;
    stays_down = λ waiting p a r h came new asks carries t. t;
    puts = λ mode waiting p m up h came new asks carries t. stays mode p.sent p.held p.got h t;
    starts = λ got m rest word p h came new asks carries t.
        with_mode (sending.Quiet got) _ p.sent p.held p.got h t (λ id accept. absurd (new id accept));
    starts_batch = λ got m rest word p h came new asks carries t.
        with_mode (sending.Quiet got) _ p.sent p.held p.got h t (λ id accept. absurd (new id accept));
    sends = λ asked jd id k word load waiting p same h came new asks carries t.
        let accept : Any (IsAcceptFor asked id) from_receiver =
        any-contains (IsAcceptFor asked id) from_receiver (record { stream = k; body = packet.Accept jd id }) came (sym same, refl) in
        sends_truth asked id load p.sent p.carried p.held p.got h t accept (asks id accept).0 (asks id accept).1 carries;
    acked = λ id under k word load got waiting p h came new asks carries t.
        with_mode (sending.Send under load) (sending.Quiet got) p.sent p.held p.got h t tt;
    crashes = λ mode waiting p h came new asks carries t.
        with_mode mode sending.Down p.sent p.held p.got (settles mode sending.Down p.sent h)
        (subst (TrueAt mode at from_receiver p.sent p.held p.got) (sym (down_mode mode p.sent h)) t) tt;
    recovers = λ waiting p h came new asks carries t. with_mode sending.Down (sending.Quiet false) p.sent p.held p.got h t tt;
  }
