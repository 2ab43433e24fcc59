-- What a sender hears of its puts is true: what is got is got, and what is settled arrives no more.
use Rattle.std.proofs.Common.{◌≡◌, ℕ, true, false, eqb, IfSome, List, [], ◌∷◌, ◌++◌, take, drop, sym, ◌∙◌, subst, inl, inr, ◌⊎◌, ⊎_elim}
use Rattle.std.specs.List.{Contains}
use Rattle.std.specs.Option.{option_to_list}
use Rattle.std.proofs.lemmas.Bool.Decides.{eqb_tells}
use Rattle.std.proofs.lemmas.List.{take-append-drop}
use Rattle.std.proofs.lemmas.List.Elements.{Contains-append_left, Contains-append_right, Contains-append_cases}
use Rattle.amo_packet.specs.declared.packet.OwnedPacket.{OwnedPacket}
use Rattle.amo_packet.specs.declared.packet.OwnedBody.{OwnedBody}
use Rattle.amo_packet.specs.declared.packet.OwnedBody.TheVariants as packet
use Rattle.amo_packet.specs.Batch.{Batch, alone}
use Rattle.amo_core.specs.declared.act.Act.{Act}
use Rattle.amo_core.specs.declared.act.Act.TheVariants as act
use Rattle.amo_core.specs.Row.{Row}
use Rattle.amo_core.specs.Receiver as receiver
use Rattle.amo_core.specs.declared.sender.SenderMode.{SenderMode}
use Rattle.amo_core.specs.declared.sender.SenderMode.TheVariants as sending
use Rattle.amo_core.specs.declared.receiver.ReceiverMode.{ReceiverMode}
use Rattle.amo_core.specs.declared.receiver.ReceiverMode.TheVariants as receiving
use Rattle.amo_world.proofs.Lists.{contains_nothing}
use Rattle.amo_world.proofs.Packets.{Any, IsAcceptFor, IsAck}
use Rattle.amo_world.proofs.Invariant.{ReceiverFacts}
use Rattle.amo_outcomes.specs.Puts.{Handshake, Puts, sent_under, called, receiver_moved}
use Rattle.amo_outcomes.specs.Outcome.{arriving, AreOf}
use Rattle.amo_outcomes.specs.Heard.{Heard, all_sent}
use Rattle.amo_outcomes.proofs.SenderOrder.{under_was_sent}

-- what the receiver took under its identifier is held or was got
abbrev pub Taken : ReceiverMode → List Handshake → List ℕ → List ℕ → Type 0
Taken (receiving.Rcvd id b) sent held got =
    ((put : ℕ) → Contains held put → Contains (sent_under sent id) put)
    × ((put : ℕ) → Contains (sent_under sent id) put → Contains got put ⊎ Contains held put)
Taken (receiving.Ack id) sent held got = (put : ℕ) → Contains (sent_under sent id) put → Contains got put
Taken receiving.Idle sent held got = Unit {0}
Taken (receiving.Accept jd id) sent held got = Unit {0}
Taken receiving.Down sent held got = Unit {0}

-- nothing arrives
abbrev pub NothingArrives : ReceiverMode → List Handshake → List ℕ → Type 0
NothingArrives at sent held = (put : ℕ) → Contains (arriving at sent held) put → ⊥

-- nothing arrives any more once a sender that asks was given an identifier
abbrev pub AskedAlone : SenderMode → ReceiverMode → List OwnedPacket → List Handshake → List ℕ → Type 0
AskedAlone (sending.NeedId jd load) at from_receiver sent held =
    (id : ℕ) → Any (IsAcceptFor jd id) from_receiver → NothingArrives at sent held
AskedAlone (sending.Quiet got) at from_receiver sent held = Unit {0}
AskedAlone (sending.Send id load) at from_receiver sent held = Unit {0}
AskedAlone sending.Down at from_receiver sent held = Unit {0}

-- of both sides' modes, what the receiver emitted, the handshakes, the puts that are held and were got, and what was heard
pub record TrueAt (mode : SenderMode) (at : ReceiverMode) (from_receiver : List OwnedPacket) (sent : List Handshake) (held got : List ℕ)
    (h : Heard) : Type 0 where
  -- what an ack says was got, was got
  pub acked : (id put : ℕ) → Any (IsAck id true) from_receiver → Contains (sent_under sent id) put → Contains got put
  -- what travels under an identifier that is not known arrives no more
  pub lost : (id put : ℕ) → Any (IsAck id false) from_receiver → Contains (sent_under sent id) put → Contains (arriving at sent held) put → ⊥
  pub taken : Taken at sent held got
  pub asked : AskedAlone mode at from_receiver sent held
  pub got_was_sent : (put : ℕ) → Contains got put → Contains (all_sent sent) put
  pub heard_got : (put : ℕ) → Contains h.got put → Contains got put
  pub heard_settled : (put : ℕ) → Contains h.settled put → Contains (arriving at sent held) put → ⊥

-- what arrives was sent
pub arriving_was_sent : (at : ReceiverMode) (sent : List Handshake) (held got : List ℕ) → Taken at sent held got → (put : ℕ)
    → Contains (arriving at sent held) put → Contains (all_sent sent) put
arriving_was_sent receiving.Idle sent held got taken put c = absurd (contains_nothing put c)
arriving_was_sent (receiving.Accept jd id) sent held got taken put c = under_was_sent sent id put c
arriving_was_sent (receiving.Rcvd id b) sent held got taken put c = under_was_sent sent id put (taken.0 put c)
arriving_was_sent (receiving.Ack id) sent held got taken put c = absurd (contains_nothing put c)
arriving_was_sent receiving.Down sent held got taken put c = absurd (contains_nothing put c)

module _ (mode : SenderMode) (n : ℕ) (sent : List Handshake) (h : Heard) (from_sender from_receiver : List OwnedPacket)
    (apart : (id other put : ℕ) → Contains (sent_under sent id) put → Contains (sent_under sent other) put → id ≡ other) where
  abbrev state : ReceiverMode → receiver.ReceiverState
  state at = record { stream = n; mode = at }

  abbrev bears : OwnedBody → OwnedPacket
  bears body = record { stream = n; body = body }

  abbrev Before : ReceiverMode → Puts → Type 0
  Before at p = TrueAt mode at from_receiver sent p.held p.got h

  -- the puts are those of these handshakes
  abbrev After : ReceiverMode → Row receiver.ReceiverState → Puts → Type 0
  After at row p = (let q = receiver_moved at row.state.mode p in
      TrueAt mode row.state.mode (option_to_list row.emitted ++ from_receiver) sent q.held q.got h)

  nothing_in : (put : ℕ) → Contains [] put → ⊥
  nothing_in put c = contains_nothing put c

  asked_less : (at now : ReceiverMode) (held left : List ℕ)
      → ((put : ℕ) → Contains (arriving now sent left) put → Contains (arriving at sent held) put)
      → (mode : SenderMode) → AskedAlone mode at from_receiver sent held → AskedAlone mode now from_receiver sent left
  asked_less at now held left less (sending.NeedId jd load) asked = λ id accept put c. asked id accept put (less put c)
  asked_less at now held left less (sending.Quiet got) asked = tt
  asked_less at now held left less (sending.Send id load) asked = tt
  asked_less at now held left less sending.Down asked = tt

  -- in another mode, where no more arrives, and of what arrived some was got
  moves : (at now : ReceiverMode) (held left got more : List ℕ) → TrueAt mode at from_receiver sent held got h
      → ((put : ℕ) → Contains (arriving now sent left) put → Contains (arriving at sent held) put)
      → ((put : ℕ) → Contains got put → Contains more put)
      → ((put : ℕ) → Contains more put → Contains (all_sent sent) put)
      → Taken now sent left more → TrueAt mode now from_receiver sent left more h
  moves at now held left got more t less grows was_sent taken = record {
    acked = λ id put ack c. grows put (t.acked id put ack c);
    lost = λ id put ack c there. t.lost id put ack c (less put there);
    taken = taken;
    asked = asked_less at now held left less mode t.asked;
    got_was_sent = was_sent;
    heard_got = λ put c. grows put (t.heard_got put c);
    heard_settled = λ put c there. t.heard_settled put c (less put there);
  }

  -- nothing arrives in the other mode
  loses : (at now : ReceiverMode) (held left got : List ℕ) → TrueAt mode at from_receiver sent held got h
      → NothingArrives now sent left → Taken now sent left got → TrueAt mode now from_receiver sent left got h
  loses at now held left got t none taken =
      moves at now held left got got t (λ put c. absurd (none put c)) (λ put c. c) t.got_was_sent taken

  asked_more : (at : ReceiverMode) (held : List ℕ) (packet : OwnedPacket) (mode : SenderMode)
      → ((jd id : ℕ) → IsAcceptFor jd id packet.body → Any (IsAcceptFor jd id) from_receiver ⊎ NothingArrives at sent held)
      → AskedAlone mode at from_receiver sent held → AskedAlone mode at (packet ∷ from_receiver) sent held
  asked_more at held packet (sending.NeedId jd load) accept asked = λ id. ⊎_elim (now id) (asked id)
    where
      either : (id : ℕ) → Any (IsAcceptFor jd id) from_receiver ⊎ NothingArrives at sent held → NothingArrives at sent held
      either id (inl earlier) = asked id earlier
      either id (inr none) = none

      now : (id : ℕ) → IsAcceptFor jd id packet.body → NothingArrives at sent held
      now id is = either id (accept jd id is)
  asked_more at held packet (sending.Quiet got) accept asked = tt
  asked_more at held packet (sending.Send id load) accept asked = tt
  asked_more at held packet sending.Down accept asked = tt

  -- one packet more was emitted: what it says is so
  says : (at : ReceiverMode) (p : Puts) (packet : OwnedPacket) → Before at p
      → ((id put : ℕ) → IsAck id true packet.body → Contains (sent_under sent id) put → Contains p.got put)
      → ((id put : ℕ) → IsAck id false packet.body → Contains (sent_under sent id) put → Contains (arriving at sent p.held) put → ⊥)
      → ((jd id : ℕ) → IsAcceptFor jd id packet.body → Any (IsAcceptFor jd id) from_receiver ⊎ NothingArrives at sent p.held)
      → TrueAt mode at (packet ∷ from_receiver) sent p.held p.got h
  says at p packet t got lost accept = record {
    acked = λ id put. ⊎_elim (λ now c. got id put now c) (λ earlier c. t.acked id put earlier c);
    lost = λ id put. ⊎_elim (λ now c there. lost id put now c there) (λ earlier c there. t.lost id put earlier c there);
    taken = t.taken;
    asked = asked_more at p.held packet mode accept t.asked;
    got_was_sent = t.got_was_sent;
    heard_got = t.heard_got;
    heard_settled = t.heard_settled;
  }

  -- an accept
  accepts : (at : ReceiverMode) (p : Puts) (jd id : ℕ) → Before at p
      → Any (IsAcceptFor jd id) from_receiver ⊎ NothingArrives at sent p.held
      → TrueAt mode at (bears (packet.Accept jd id) ∷ from_receiver) sent p.held p.got h
  accepts at p jd id t before =
      says at p (bears (packet.Accept jd id)) t (λ other put is. absurd is) (λ other put is. absurd is)
      (λ asked other is. subst (λ (x : ℕ). Any (IsAcceptFor x other) from_receiver ⊎ NothingArrives at sent p.held) is.0
      (subst (λ (x : ℕ). Any (IsAcceptFor jd x) from_receiver ⊎ NothingArrives at sent p.held) is.1 before))

  -- an ack that says that the identifier is not known, under which nothing arrives
  acks_lost : (at : ReceiverMode) (p : Puts) (id : ℕ) → Before at p
      → ((put : ℕ) → Contains (sent_under sent id) put → Contains (arriving at sent p.held) put → ⊥)
      → TrueAt mode at (bears (packet.Ack id false) ∷ from_receiver) sent p.held p.got h
  acks_lost at p id t none =
      says at p (bears (packet.Ack id false)) t (λ other put is c. absurd (differ is.1))
      (λ other put is. subst (λ (x : ℕ). Contains (sent_under sent x) put → Contains (arriving at sent p.held) put → ⊥) is.0 (none put))
      (λ jd other is. absurd is)
    where
      differ : false ≡ true → ⊥
      differ e = cc

  -- nothing happens
  nothing : (at : ReceiverMode) (p : Puts) → Before at p → (let q = receiver_moved at at p in TrueAt mode at from_receiver sent q.held q.got h)
  nothing receiving.Idle p t = t
  nothing (receiving.Accept jd id) p t = t
  nothing (receiving.Rcvd id b) p t = t
  nothing (receiving.Ack id) p t = t
  nothing receiving.Down p t = loses receiving.Down receiving.Down p.held [] p.got t nothing_in tt

  needuid_truth : (at : ReceiverMode) (jd word : ℕ) (p : Puts) → Before at p → ReceiverFacts at from_receiver
      → IfSome (receiver.accepted_word at (packet.NeedUid jd) word) (λ w. sent_under sent w ≡ [])
      → After at (receiver.needuid (state at) at jd word) p
  needuid_truth receiving.Idle jd word p t f new =
      accepts (receiving.Accept jd word) p jd word (loses receiving.Idle (receiving.Accept jd word) p.held p.held p.got t none tt) (inr none)
    where
      none : NothingArrives (receiving.Accept jd word) sent p.held
      none put c = contains_nothing put (subst (λ (ns : List ℕ). Contains ns put) new c)
  needuid_truth (receiving.Accept asked id) jd word p t f new = elim (eqb_tells asked jd) [
    | inl e ↦ rw e.0 (accepts (receiving.Accept asked id) p jd id t
        (inl (subst (λ (x : ℕ). Any (IsAcceptFor x id) from_receiver) e.1 f)))
    | inr e ↦ rw e.0 t
  ]
  needuid_truth (receiving.Rcvd id b) jd word p t f new = t
  needuid_truth (receiving.Ack id) jd word p t f new = t
  needuid_truth receiving.Down jd word p t f new = nothing receiving.Down p t

  -- what arrives is held
  takes : (jd accepted id : ℕ) (b : Batch) (p : Puts) → accepted ≡ id → Before (receiving.Accept jd accepted) p
      → TrueAt mode (receiving.Rcvd id b) from_receiver sent (sent_under sent id) p.got h
  takes jd accepted id b p same t =
      moves (receiving.Accept jd accepted) (receiving.Rcvd id b) p.held (sent_under sent id) p.got p.got t
      (λ put. subst (λ (x : ℕ). Contains (sent_under sent id) put → Contains (sent_under sent x) put) (sym same) (λ c. c))
      (λ put c. c) t.got_was_sent (λ put c. c, λ put c. inr c)

  -- the puts are those of these handshakes
  abbrev OfSent : Puts → Type 0
  OfSent p = p.sent ≡ sent

  batch_truth : (at : ReceiverMode) (id : ℕ) (b : Batch) (p : Puts) → OfSent p → Before at p
      → After at (receiver.batch (state at) at id b) p
  batch_truth receiving.Idle id b p of t = acks_lost receiving.Idle p id t (λ put c there. nothing_in put there)
  batch_truth (receiving.Accept jd accepted) id b p of t = elim (eqb_tells accepted id) [
    | inl e ↦ rw e.0
        (subst (λ (s : List Handshake). TrueAt mode (receiving.Rcvd id b) from_receiver sent (sent_under s id) p.got h) (sym of)
        (takes jd accepted id b p e.1 t))
    | inr e ↦ rw e.0 (acks_lost (receiving.Accept jd accepted) p id t (λ put c there. e.1 (apart accepted id put there c)))
  ]
  batch_truth (receiving.Rcvd under held) id b p of t = elim (eqb_tells under id) [
    | inl e ↦ rw e.0 t
    | inr e ↦ rw e.0 (acks_lost (receiving.Rcvd under held) p id t (λ put c there. e.1 (apart under id put (t.taken.0 put there) c)))
  ]
  batch_truth (receiving.Ack under) id b p of t =
      says (receiving.Ack under) p (bears (packet.Ack id (eqb under id))) t (λ other put is c. acked other put is.0 is.1 (eqb_tells under id) c)
      (λ other put is c there. nothing_in put there) (λ jd other is. absurd is)
    where
      acked : (other put : ℕ) → id ≡ other → eqb under id ≡ true
          → ((eqb under id ≡ true) × (under ≡ id)) ⊎ ((eqb under id ≡ false) × (under ≡ id → ⊥)) → Contains (sent_under sent other) put
          → Contains p.got put
      acked other put same is (inl e) c =
          t.taken put (subst (λ (x : ℕ). Contains (sent_under sent x) put) (sym (e.1 ∙ same)) c)
      acked other put same is (inr e) c = absurd (differ e.0 is)
        where
          differ : eqb under id ≡ false → eqb under id ≡ true → ⊥
          differ is_false is_true = cc
  batch_truth receiving.Down id b p of t = nothing receiving.Down p t

  cleanup_truth : (at : ReceiverMode) (id : ℕ) (p : Puts) → Before at p → After at (receiver.cleanup (state at) at id) p
  cleanup_truth receiving.Idle id p t = t
  cleanup_truth (receiving.Accept jd accepted) id p t = elim (eqb_tells accepted id) [
    | inl e ↦ rw e.0 (loses (receiving.Accept jd accepted) receiving.Idle p.held p.held p.got t nothing_in tt)
    | inr e ↦ rw e.0 t
  ]
  cleanup_truth (receiving.Rcvd under held) id p t = t
  cleanup_truth (receiving.Ack under) id p t = elim (eqb_tells under id) [
    | inl e ↦ rw e.0 (loses (receiving.Ack under) receiving.Idle p.held p.held p.got t nothing_in tt)
    | inr e ↦ rw e.0 t
  ]
  cleanup_truth receiving.Down id p t = nothing receiving.Down p t

  deliver_truth : (at : ReceiverMode) (body : OwnedBody) (word : ℕ) (p : Puts) → OfSent p → Before at p → ReceiverFacts at from_receiver
      → IfSome (receiver.accepted_word at body word) (λ w. sent_under sent w ≡ [])
      → After at (receiver.deliver (state at) body word) p
  deliver_truth at (packet.NeedUid jd) word p of t f new = needuid_truth at jd word p t f new
  deliver_truth at (packet.Accept jd id) word p of t f new = nothing at p t
  deliver_truth at (packet.Send id m) word p of t f new = batch_truth at id (alone m) p of t
  deliver_truth at (packet.Ack id got) word p of t f new = nothing at p t
  deliver_truth at (packet.Cleanup id) word p of t f new = cleanup_truth at id p t
  deliver_truth at (packet.Batch id b) word p of t f new = batch_truth at id b p of t

  resend_truth : (at : ReceiverMode) (p : Puts) → Before at p → ReceiverFacts at from_receiver → After at (receiver.resend (state at) at) p
  resend_truth receiving.Idle p t f = t
  resend_truth (receiving.Accept jd id) p t f = accepts (receiving.Accept jd id) p jd id t (inl f)
  resend_truth (receiving.Rcvd id b) p t f = t
  resend_truth (receiving.Ack id) p t f =
      says (receiving.Ack id) p (bears (packet.Ack id true)) t
      (λ other put is c. t.taken put (subst (λ (x : ℕ). Contains (sent_under sent x) put) (sym is.0) c))
      (λ other put is c there. nothing_in put there) (λ jd other is. absurd is)
  resend_truth receiving.Down p t f = nothing receiving.Down p t

  crash_truth : (at : ReceiverMode) (p : Puts) → Before at p
      → (let q = receiver_moved at receiving.Down p in TrueAt mode receiving.Down from_receiver sent q.held q.got h)
  crash_truth receiving.Idle p t = loses receiving.Idle receiving.Down p.held [] p.got t nothing_in tt
  crash_truth (receiving.Accept jd id) p t = loses (receiving.Accept jd id) receiving.Down p.held [] p.got t nothing_in tt
  crash_truth (receiving.Rcvd id b) p t = loses (receiving.Rcvd id b) receiving.Down p.held [] p.got t nothing_in tt
  crash_truth (receiving.Ack id) p t = loses (receiving.Ack id) receiving.Down p.held [] p.got t nothing_in tt
  crash_truth receiving.Down p t = loses receiving.Down receiving.Down p.held [] p.got t nothing_in tt

  recover_truth : (at : ReceiverMode) (p : Puts) → Before at p → After at (receiver.recover (state at) at) p
  recover_truth receiving.Idle p t = t
  recover_truth (receiving.Accept jd id) p t = t
  recover_truth (receiving.Rcvd id b) p t = t
  recover_truth (receiving.Ack id) p t = t
  recover_truth receiving.Down p t = loses receiving.Down receiving.Idle p.held p.held p.got t nothing_in tt

  -- the first of what is held is got
  either_part : (held : List ℕ) (put : ℕ) → Contains held put → Contains (take 1 held) put ⊎ Contains (drop 1 held) put
  either_part held put c =
      Contains-append_cases (take 1 held) (drop 1 held) put (subst (λ (ns : List ℕ). Contains ns put) (sym (take-append-drop 1 held)) c)

  later_held : (held : List ℕ) (put : ℕ) → Contains (drop 1 held) put → Contains held put
  later_held held put c =
      subst (λ (ns : List ℕ). Contains ns put) (take-append-drop 1 held) (Contains-append_right (take 1 held) (drop 1 held) put c)

  first_held : (held : List ℕ) (put : ℕ) → Contains (take 1 held) put → Contains held put
  first_held held put c =
      subst (λ (ns : List ℕ). Contains ns put) (take-append-drop 1 held) (Contains-append_left (take 1 held) (drop 1 held) put c)

  -- where the last message is got nothing is held any more
  none_left : (messages_put : List (List ℕ)) (held : List ℕ) (first : List ℕ) → AreOf messages_put held (first ∷ [])
      → (put : ℕ) → Contains (drop 1 held) put → ⊥
  none_left messages_put [] first are put c = absurd are
  none_left messages_put (one ∷ []) first are put c = contains_nothing put c
  none_left messages_put (one ∷ two ∷ more) first are put c = absurd are.1

  gets : (id : ℕ) (b : Batch) (now : ReceiverMode) (p : Puts) → Before (receiving.Rcvd id b) p
      → ((put : ℕ) → Contains (arriving now sent (drop 1 p.held)) put → Contains (drop 1 p.held) put)
      → Taken now sent (drop 1 p.held) (p.got ++ take 1 p.held)
      → TrueAt mode now from_receiver sent (drop 1 p.held) (p.got ++ take 1 p.held) h
  gets id b now p t less taken =
      moves (receiving.Rcvd id b) now p.held (drop 1 p.held) p.got (p.got ++ take 1 p.held) t
      (λ put c. later_held p.held put (less put c)) (λ put c. Contains-append_left p.got (take 1 p.held) put c)
      (λ put c. elim (Contains-append_cases p.got (take 1 p.held) put c) [
        | inl before ↦ t.got_was_sent put before
        | inr first ↦ under_was_sent sent id put (t.taken.0 put (first_held p.held put first))
      ])
      taken

  get_truth : (messages_put : List (List ℕ)) (at : ReceiverMode) (p : Puts) → Before at p → AreOf messages_put p.held (receiver.held_by at)
      → (let row = receiver.get (state at) at in let q = receiver_moved at row.state.mode (called act.Get row.reply p) in
      TrueAt mode row.state.mode (option_to_list row.emitted ++ from_receiver) sent q.held q.got h)
  get_truth messages_put receiving.Idle p t are = t
  get_truth messages_put (receiving.Accept jd id) p t are = t
  get_truth messages_put (receiving.Rcvd id b) p t are = by b.rest are
    where
      got_or_held : (put : ℕ) → Contains (sent_under sent id) put
          → Contains (p.got ++ take 1 p.held) put ⊎ Contains (drop 1 p.held) put
      got_or_held put c = elim (t.taken.1 put c) [
        | inl before ↦ inl (Contains-append_left p.got (take 1 p.held) put before)
        | inr there ↦ elim (either_part p.held put there) [
          | inl first ↦ inl (Contains-append_right p.got (take 1 p.held) put first)
          | inr later ↦ inr later
        ]
      ]

      by : (rest : List (List ℕ)) → AreOf messages_put p.held (b.first ∷ rest)
          → (let q = receiver_moved (receiving.Rcvd id b) (receiver.with_rest id rest)
          (record p { held = drop 1 p.held; got = p.got ++ take 1 p.held }) in
          TrueAt mode (receiver.with_rest id rest) from_receiver sent q.held q.got h)
      by [] are = gets id b (receiving.Ack id) p t (λ put c. absurd (nothing_in put c))
          (λ put c. elim (got_or_held put c) [
            | inl got ↦ got
            | inr later ↦ absurd (none_left messages_put p.held b.first are put later)
          ])
      by (m ∷ rest) are = gets id b (receiving.Rcvd id (record { first = m; rest = rest })) p t (λ put c. c)
          (λ put c. t.taken.0 put (later_held p.held put c), got_or_held)
  get_truth messages_put (receiving.Ack id) p t are = t
  get_truth messages_put receiving.Down p t are = nothing receiving.Down p t

  -- each row of the receiver's table
  pub receiver_truth : (messages_put : List (List ℕ)) (at : ReceiverMode) (a : Act) (p : Puts) → OfSent p → Before at p
      → AreOf messages_put p.held (receiver.held_by at) → ReceiverFacts at from_receiver
      → IfSome (receiver.used_word (state at) a) (λ w. sent_under sent w ≡ [])
      → (let row = receiver.row (state at) a in let q = receiver_moved at row.state.mode (called a row.reply p) in
      TrueAt mode row.state.mode (option_to_list row.emitted ++ from_receiver) sent q.held q.got h)
  receiver_truth messages_put at (act.Put m) p of t are f new = nothing at p t
  receiver_truth messages_put at act.Get p of t are f new = get_truth messages_put at p t are
  receiver_truth messages_put at act.Ack p of t are f new = nothing at p t
  receiver_truth messages_put at (act.Start word) p of t are f new = nothing at p t
  receiver_truth messages_put at (act.Batch word) p of t are f new = nothing at p t
  receiver_truth messages_put at act.Resend p of t are f new = resend_truth at p t f
  receiver_truth messages_put at (act.Deliver b word) p of t are f new = deliver_truth at b.body word p of t f new
  receiver_truth messages_put at act.Crash p of t are f new = crash_truth at p t
  receiver_truth messages_put at act.Recover p of t are f new = recover_truth at p t
