-- The messages of the puts: what waits, what travels, what is held and what was got are the messages of the puts that are told for it.
use Rattle.std.proofs.Common.{◌≡◌, ℕ, ◌+◌, Bool, true, false, eqb, if◌then◌else◌, Option, Some, List, [], ◌∷◌, ◌++◌, length, take, drop, slice_get, refl, sym, ap, subst, inl, inr, ◌⊎◌, ⊎_elim, arith}
use Rattle.std.specs.List.{Contains}
use Rattle.std.specs.Option.{option_to_list}
use Rattle.std.proofs.lemmas.Bool.Decides.{eqb_tells}
use Rattle.std.proofs.lemmas.List.{append-nil, length_push, take-append-drop}
use Rattle.amo_packet.specs.declared.packet.OwnedPacket.{OwnedPacket}
use Rattle.amo_packet.specs.declared.packet.OwnedBody.{OwnedBody}
use Rattle.amo_packet.specs.declared.packet.OwnedBody.TheVariants as packet
use Rattle.amo_core.specs.declared.act.Act.{Act}
use Rattle.amo_core.specs.declared.act.Act.TheVariants as act
use Rattle.amo_core.specs.declared.reply.Reply.{Reply}
use Rattle.amo_core.specs.declared.reply.Reply.TheVariants as reply
use Rattle.amo_core.specs.declared.payload.Payload.{Payload}
use Rattle.amo_core.specs.declared.payload.Payload.TheVariants as payload
use Rattle.amo_core.specs.Row.{Row, silent}
use Rattle.amo_core.specs.Sender as sender
use Rattle.amo_core.specs.Sender.{messages_in, carrying}
use Rattle.amo_core.specs.Receiver as receiver
use Rattle.amo_core.specs.declared.sender.SenderMode.{SenderMode}
use Rattle.amo_core.specs.declared.sender.SenderMode.TheVariants as sending
use Rattle.amo_core.specs.declared.receiver.ReceiverMode.{ReceiverMode}
use Rattle.amo_world.proofs.Lists.{slice_get-longer, slice_get-end}
use Rattle.amo_world.proofs.Packets.{Any, IsSend, IsAccept, IsAcceptFor, any-contains, accepted, send_is_past, carrying_only}
use Rattle.amo_world.proofs.Invariant.{SenderFacts}
use Rattle.amo_outcomes.specs.Puts.{Handshake, Puts, sent_under, called, sender_moved}
use Rattle.amo_outcomes.specs.Outcome.{AreOf}

-- messages of puts, once one more was put
pub of_longer : (taken : List (List ℕ)) (more : List (List ℕ)) (puts : List ℕ) (ms : List (List ℕ)) → AreOf taken puts ms
    → AreOf (taken ++ more) puts ms
of_longer taken more [] [] are = are
of_longer taken more [] (m ∷ ms) are = absurd are
of_longer taken more (put ∷ puts) [] are = absurd are
of_longer taken more (put ∷ puts) (m ∷ ms) are = (slice_get-longer taken more put m are.0, of_longer taken more puts ms are.1)

-- both with more at the end
pub of_append : (taken : List (List ℕ)) (puts more : List ℕ) (ms ns : List (List ℕ)) → AreOf taken puts ms → AreOf taken more ns
    → AreOf taken (puts ++ more) (ms ++ ns)
of_append taken [] more [] ns are others = others
of_append taken [] more (m ∷ ms) ns are others = absurd are
of_append taken (put ∷ puts) more [] ns are others = absurd are
of_append taken (put ∷ puts) more (m ∷ ms) ns are others = (are.0, of_append taken puts more ms ns are.1 others)

-- the first ones, and the others
pub of_take : (taken : List (List ℕ)) (puts : List ℕ) (ms ns : List (List ℕ)) → AreOf taken puts (ms ++ ns)
    → AreOf taken (take (length ms) puts) ms
of_take taken puts [] ns are = tt
of_take taken [] (m ∷ ms) ns are = absurd are
of_take taken (put ∷ puts) (m ∷ ms) ns are = (are.0, of_take taken puts ms ns are.1)

pub of_drop : (taken : List (List ℕ)) (puts : List ℕ) (ms ns : List (List ℕ)) → AreOf taken puts (ms ++ ns)
    → AreOf taken (drop (length ms) puts) ns
of_drop taken puts [] ns are = are
of_drop taken [] (m ∷ ms) ns are = absurd are
of_drop taken (put ∷ puts) (m ∷ ms) ns are = of_drop taken puts ms ns are.1

-- the messages of what the sender asks an identifier for
abbrev pub AreCarried : List (List ℕ) → SenderMode → List ℕ → Type 0
AreCarried taken (sending.NeedId jd load) carried = AreOf taken carried (messages_in load)
AreCarried taken (sending.Quiet got) carried = Unit {0}
AreCarried taken (sending.Send id load) carried = Unit {0}
AreCarried taken sending.Down carried = Unit {0}

-- of both sides' modes, the messages that wait, what each side emitted, and the puts: their messages, where these were put and these were got
pub record TiesAt (mode : SenderMode) (waiting : List (List ℕ)) (at : ReceiverMode) (from_sender from_receiver : List OwnedPacket)
    (p : Puts) (taken gotten : List (List ℕ)) : Type 0 where
  pub count : p.count ≡ length taken
  pub waiting_are : AreOf taken p.waiting waiting
  pub carried_are : AreCarried taken mode p.carried
  -- each send or batch under an identifier carries the messages of the puts that travel under it
  pub sent_are : (id : ℕ) (ms : List (List ℕ)) → Any (IsSend id ms) from_sender → AreOf taken (sent_under p.sent id) ms
  -- nothing travels under an identifier that was not accepted
  pub unsent : (id : ℕ) → (Any (IsAccept id) from_receiver → ⊥) → sent_under p.sent id ≡ []
  pub held_are : AreOf taken p.held (receiver.held_by at)
  pub got_are : AreOf taken p.got gotten

-- the message that an act puts, if it is taken, and the one that it gets
abbrev pub message_put : Act → Option Reply → List (List ℕ)
message_put (act.Put m) (Some reply.Ok) = m ∷ []
message_put _ _ = []

abbrev pub message_got : Act → Option Reply → List (List ℕ)
message_got act.Get (Some (reply.Got m)) = m ∷ []
message_got _ _ = []

module _ (at : ReceiverMode) (n : ℕ) (from_sender from_receiver : List OwnedPacket) (untaken taken gotten : List (List ℕ)) where
  abbrev state : SenderMode → List (List ℕ) → sender.SenderState
  state mode waiting = record { stream = n; mode = mode; waiting = waiting }

  abbrev bears : OwnedBody → OwnedPacket
  bears body = record { stream = n; body = body }

  abbrev Before : SenderMode → List (List ℕ) → Puts → Type 0
  Before mode waiting p = TiesAt mode waiting at from_sender from_receiver p taken gotten

  -- after a row of an act that puts nothing and gets nothing
  abbrev After : SenderMode → Row sender.SenderState → Puts → Type 0
  After mode row p =
      TiesAt row.state.mode row.state.waiting at (option_to_list row.emitted ++ from_sender) from_receiver
      (sender_moved mode row.state.mode p) taken gotten

  -- in another mode, with other messages waiting, of other puts
  with_waiting : (mode now : SenderMode) (waiting left : List (List ℕ)) (p : Puts) (puts carried : List ℕ) → Before mode waiting p
      → AreOf taken puts left → AreCarried taken now carried
      → Before now left (record p { waiting = puts; carried = carried })
  with_waiting mode now waiting left p puts carried t are others = record {
    count = t.count;
    waiting_are = are;
    carried_are = others;
    sent_are = t.sent_are;
    unsent = t.unsent;
    held_are = t.held_are;
    got_are = t.got_are;
  }

  -- one packet more was emitted: a send of messages that were sent before under its identifier, or no send
  with_packet : (mode : SenderMode) (waiting : List (List ℕ)) (p : Puts) (packet : OwnedPacket) → Before mode waiting p
      → ((id : ℕ) (ms : List (List ℕ)) → IsSend id ms packet.body → Any (IsSend id ms) from_sender)
      → TiesAt mode waiting at (packet ∷ from_sender) from_receiver p taken gotten
  with_packet mode waiting p packet t again = record {
    count = t.count;
    waiting_are = t.waiting_are;
    carried_are = t.carried_are;
    sent_are = λ id ms. ⊎_elim (λ now. t.sent_are id ms (again id ms now)) (t.sent_are id ms);
    unsent = t.unsent;
    held_are = t.held_are;
    got_are = t.got_are;
  }

  -- what holds of the sender in its mode
  abbrev Facts : SenderMode → List (List ℕ) → Type 0
  Facts mode waiting = SenderFacts mode waiting at from_sender from_receiver untaken

  -- a sender that is down has nothing waiting
  stays_down : (waiting : List (List ℕ)) (p : Puts) → Before sending.Down waiting p → waiting ≡ []
      → Before sending.Down waiting (record p { waiting = [] })
  stays_down waiting p t none =
      with_waiting sending.Down sending.Down waiting waiting p [] p.carried t (subst (AreOf taken []) (sym none) tt) tt

  -- nothing happens
  nothing : (mode : SenderMode) (waiting : List (List ℕ)) (p : Puts) → Before mode waiting p → Facts mode waiting
      → After mode (sender.quietly (state mode waiting)) p
  nothing (sending.Quiet got) waiting p t f = t
  nothing (sending.NeedId jd load) waiting p t f = t
  nothing (sending.Send id load) waiting p t f = t
  nothing sending.Down waiting p t f = stays_down waiting p t f

  -- a packet that is no send
  cleans : (mode : SenderMode) (waiting : List (List ℕ)) (p : Puts) (id : ℕ) → Before mode waiting p
      → TiesAt mode waiting at (bears (packet.Cleanup id) ∷ from_sender) from_receiver p taken gotten
  cleans mode waiting p id t = with_packet mode waiting p (bears (packet.Cleanup id)) t (λ other ms is. absurd is)

  get_ack_ties : (mode : SenderMode) (waiting : List (List ℕ)) (p : Puts) → Before mode waiting p → Facts mode waiting
      → After mode (sender.get_ack (state mode waiting) mode waiting) p
  get_ack_ties (sending.Quiet true) [] p t f = t
  get_ack_ties (sending.Quiet true) (m ∷ waiting) p t f = t
  get_ack_ties (sending.Quiet false) [] p t f = t
  get_ack_ties (sending.Quiet false) (m ∷ waiting) p t f = t
  get_ack_ties (sending.NeedId jd load) waiting p t f = t
  get_ack_ties (sending.Send id load) waiting p t f = t
  get_ack_ties sending.Down waiting p t f = stays_down waiting p t f

  -- a handshake begins for the first messages that wait
  begins : (got : Bool) (waiting left : List (List ℕ)) (load : Payload) (word : ℕ) (p : Puts)
      → Before (sending.Quiet got) waiting p
      → waiting ≡ messages_in load ++ left
      → TiesAt (sending.NeedId word load) left at (bears (packet.NeedUid word) ∷ from_sender) from_receiver
      (sender_moved (sending.Quiet got) (sending.NeedId word load) p) taken gotten
  begins got waiting left load word p t both =
      let many = length (messages_in load) in
      let are = subst (AreOf taken p.waiting) both t.waiting_are in record {
        count = t.count;
        waiting_are = of_drop taken p.waiting (messages_in load) left are;
        carried_are = of_take taken p.waiting (messages_in load) left are;
        sent_are = λ id ms. ⊎_elim (λ is. absurd is) (t.sent_are id ms);
        unsent = t.unsent;
        held_are = t.held_are;
        got_are = t.got_are;
      }

  start_ties : (mode : SenderMode) (waiting : List (List ℕ)) (word : ℕ) (p : Puts) → Before mode waiting p → Facts mode waiting
      → After mode (sender.start (state mode waiting) mode waiting word) p
  start_ties (sending.Quiet got) [] word p t f = t
  start_ties (sending.Quiet got) (m ∷ waiting) word p t f = begins got (m ∷ waiting) waiting (payload.Message m) word p t refl
  start_ties (sending.NeedId jd load) waiting word p t f = t
  start_ties (sending.Send id load) waiting word p t f = t
  start_ties sending.Down waiting word p t f = stays_down waiting p t f

  batch_ties : (mode : SenderMode) (waiting : List (List ℕ)) (word : ℕ) (p : Puts) → Before mode waiting p → Facts mode waiting
      → After mode (sender.start_batch (state mode waiting) mode waiting word) p
  batch_ties (sending.Quiet got) [] word p t f = t
  batch_ties (sending.Quiet got) (m ∷ waiting) word p t f =
      begins got (m ∷ waiting) (drop 3 waiting) (payload.Batch (record { first = m; rest = take 3 waiting })) word p t
      (ap (λ (ms : List (List ℕ)). m ∷ ms) (sym (take-append-drop 3 waiting)))
  batch_ties (sending.NeedId jd load) waiting word p t f = t
  batch_ties (sending.Send id load) waiting word p t f = t
  batch_ties sending.Down waiting word p t f = stays_down waiting p t f

  resend_ties : (mode : SenderMode) (waiting : List (List ℕ)) (p : Puts) → Before mode waiting p → Facts mode waiting
      → After mode (sender.resend (state mode waiting) mode) p
  resend_ties (sending.Quiet got) waiting p t f = t
  resend_ties (sending.NeedId jd load) waiting p t f =
      with_packet (sending.NeedId jd load) waiting p (bears (packet.NeedUid jd)) t (λ id ms is. absurd is)
  resend_ties (sending.Send id load) waiting p t f =
      with_packet (sending.Send id load) waiting p (bears (carrying id load)) t
      (λ other ms is. let same = carrying_only id load other ms is in
      subst (λ (x : ℕ). Any (IsSend x ms) from_sender) same.0
      (subst (λ (xs : List (List ℕ)). Any (IsSend id xs) from_sender) same.1 f.was_sent))
  resend_ties sending.Down waiting p t f = stays_down waiting p t f

  -- what was asked for is sent under an identifier that was accepted for it, under which nothing was sent before
  sends : (jd id : ℕ) (load : Payload) (waiting : List (List ℕ)) (p : Puts) → Before (sending.NeedId jd load) waiting p
      → Facts (sending.NeedId jd load) waiting → Any (IsAcceptFor jd id) from_receiver
      → TiesAt (sending.Send id load) waiting at (bears (carrying id load) ∷ from_sender) from_receiver
      (sender_moved (sending.NeedId jd load) (sending.Send id load) p) taken gotten
  sends jd id load waiting p t f accept = record {
    count = t.count;
    waiting_are = t.waiting_are;
    carried_are = tt;
    sent_are = λ other ms. ⊎_elim (now other ms) (λ before. earlier other ms before (eqb_tells id other));
    unsent = λ other not_accepted. unsent other not_accepted (eqb_tells id other);
    held_are = t.held_are;
    got_are = t.got_are;
  }
    where
      sent : List Handshake
      sent = record { id = id; puts = p.carried } ∷ p.sent

      now : (other : ℕ) (ms : List (List ℕ)) → IsSend other ms (carrying id load) → AreOf taken (sent_under sent other) ms
      now other ms is = let same = carrying_only id load other ms is in
          subst (λ (x : ℕ). AreOf taken (sent_under sent x) ms) same.0
          (subst (λ (xs : List (List ℕ)). AreOf taken (sent_under sent id) xs) same.1 (here (eqb_tells id id)))
        where
          here : ((eqb id id ≡ true) × (id ≡ id)) ⊎ ((eqb id id ≡ false) × (id ≡ id → ⊥)) → AreOf taken (sent_under sent id)
              (messages_in load)
          here (inl h) = rw h.0 t.carried_are
          here (inr h) = absurd (h.1 refl)

      earlier : (other : ℕ) (ms : List (List ℕ)) → Any (IsSend other ms) from_sender
          → ((eqb id other ≡ true) × (id ≡ other)) ⊎ ((eqb id other ≡ false) × (id ≡ other → ⊥))
          → AreOf taken (sent_under sent other) ms
      earlier other ms before (inl h) =
          absurd ((f.untouched id accept).sender_not_past
          (send_is_past id ms from_sender (subst (λ (x : ℕ). Any (IsSend x ms) from_sender) (sym h.1) before)))
      earlier other ms before (inr h) = rw h.0 (t.sent_are other ms before)

      unsent : (other : ℕ) → (Any (IsAccept other) from_receiver → ⊥)
          → ((eqb id other ≡ true) × (id ≡ other)) ⊎ ((eqb id other ≡ false) × (id ≡ other → ⊥)) → sent_under sent other ≡ []
      unsent other not_accepted (inl h) =
          absurd (not_accepted (subst (λ (x : ℕ). Any (IsAccept x) from_receiver) h.1 (accepted jd id from_receiver accept)))
      unsent other not_accepted (inr h) = rw h.0 (t.unsent other not_accepted)

  accept_ties : (mode : SenderMode) (waiting : List (List ℕ)) (jd id : ℕ) (p : Puts) → Before mode waiting p → Facts mode waiting
      → Any (IsAcceptFor jd id) from_receiver → After mode (sender.accept (state mode waiting) mode jd id) p
  accept_ties (sending.Quiet got) waiting jd id p t f accept = cleans (sending.Quiet got) waiting p id t
  accept_ties (sending.NeedId asked load) waiting jd id p t f accept = elim (eqb_tells asked jd) [
    | inl h ↦ rw h.0 (sends asked id load waiting p t f (subst (λ (x : ℕ). Any (IsAcceptFor x id) from_receiver)
        (sym h.1) accept))
    | inr h ↦ rw h.0 (cleans (sending.NeedId asked load) waiting p id t)
  ]
  accept_ties (sending.Send under load) waiting jd id p t f accept = elim (eqb_tells under id) [
    | inl h ↦ rw h.0 t
    | inr h ↦ rw h.0 (cleans (sending.Send under load) waiting p id t)
  ]
  accept_ties sending.Down waiting jd id p t f accept = stays_down waiting p t f

  -- a handshake is over
  rests : (mode now : SenderMode) (waiting : List (List ℕ)) (p : Puts) → Before mode waiting p
      → AreCarried taken now p.carried → Before now waiting p
  rests mode now waiting p t carried = with_waiting mode now waiting waiting p p.waiting p.carried t t.waiting_are carried

  ack_ties : (mode : SenderMode) (waiting : List (List ℕ)) (id : ℕ) (got : Bool) (p : Puts) → Before mode waiting p
      → Facts mode waiting
      → After mode (sender.ack (state mode waiting) mode id got) p
  ack_ties (sending.Quiet was) waiting id true p t f = cleans (sending.Quiet was) waiting p id t
  ack_ties (sending.Quiet was) waiting id false p t f = t
  ack_ties (sending.NeedId jd load) waiting id true p t f = cleans (sending.NeedId jd load) waiting p id t
  ack_ties (sending.NeedId jd load) waiting id false p t f = t
  ack_ties (sending.Send under load) waiting id true p t f = elim (eqb_tells under id) [
    | inl h ↦ rw h.0 (cleans' (rests (sending.Send under load) (sending.Quiet true) waiting p t tt))
    | inr h ↦ rw h.0 (cleans (sending.Send under load) waiting p id t)
  ]
    where
      cleans' : Before (sending.Quiet true) waiting p
          → TiesAt (sending.Quiet true) waiting at (bears (packet.Cleanup id) ∷ from_sender) from_receiver p taken gotten
      cleans' u = cleans (sending.Quiet true) waiting p id u
  ack_ties (sending.Send under load) waiting id false p t f = elim (eqb_tells under id) [
    | inl h ↦ rw h.0 (rests (sending.Send under load) (sending.Quiet false) waiting p t tt)
    | inr h ↦ rw h.0 t
  ]
  ack_ties sending.Down waiting id got p t f = stays_down waiting p t f

  -- a packet that comes: all that holds of it holds of one that the receiver emitted
  deliver_ties : (mode : SenderMode) (waiting : List (List ℕ)) (body : OwnedBody) (p : Puts) → Before mode waiting p
      → Facts mode waiting
      → ((P : OwnedBody → Type 0) → P body → Any P from_receiver)
      → After mode (sender.deliver (state mode waiting) body) p
  deliver_ties mode waiting (packet.NeedUid jd) p t f said = nothing mode waiting p t f
  deliver_ties mode waiting (packet.Accept jd id) p t f said = accept_ties mode waiting jd id p t f (said (IsAcceptFor jd id)
      (refl, refl))
  deliver_ties mode waiting (packet.Send id m) p t f said = nothing mode waiting p t f
  deliver_ties mode waiting (packet.Ack id got) p t f said = ack_ties mode waiting id got p t f
  deliver_ties mode waiting (packet.Cleanup id) p t f said = nothing mode waiting p t f
  deliver_ties mode waiting (packet.Batch id b) p t f said = nothing mode waiting p t f

  crash_ties : (mode : SenderMode) (waiting : List (List ℕ)) (p : Puts) → Before mode waiting p
      → After mode (sender.quietly (state sending.Down [])) p
  crash_ties (sending.Quiet got) waiting p t = with_waiting _ sending.Down waiting [] p [] p.carried t tt tt
  crash_ties (sending.NeedId jd load) waiting p t = with_waiting _ sending.Down waiting [] p [] p.carried t tt tt
  crash_ties (sending.Send id load) waiting p t = with_waiting _ sending.Down waiting [] p [] p.carried t tt tt
  crash_ties sending.Down waiting p t = with_waiting _ sending.Down waiting [] p [] p.carried t tt tt

  recover_ties : (mode : SenderMode) (waiting : List (List ℕ)) (p : Puts) → Before mode waiting p → Facts mode waiting
      → After mode (sender.recover (state mode waiting) mode) p
  recover_ties (sending.Quiet got) waiting p t f = t
  recover_ties (sending.NeedId jd load) waiting p t f = t
  recover_ties (sending.Send id load) waiting p t f = t
  recover_ties sending.Down waiting p t f =
      with_waiting sending.Down (sending.Quiet false) waiting [] p p.waiting p.carried t (subst
      (AreOf taken p.waiting) f t.waiting_are) tt

  -- a message more waits
  puts : (mode : SenderMode) (waiting : List (List ℕ)) (m : List ℕ) (p : Puts) → Before mode waiting p
      → TiesAt mode (waiting ++ m ∷ []) at from_sender from_receiver
      (record p { count = p.count + 1; waiting = p.waiting ++ p.count ∷ [] }) (taken ++ m ∷ []) (gotten ++ [])
  puts mode waiting m p t = record {
    count = omega (arith, t.count, length_push taken m);
    waiting_are = of_append (taken ++ m ∷ []) p.waiting (p.count ∷ []) waiting (m ∷ []) (of_longer taken
        (m ∷ []) p.waiting waiting t.waiting_are)
        (subst (λ (k : ℕ). slice_get (taken ++ m ∷ []) k ≡ Some m) (sym t.count) (slice_get-end taken m), tt);
    carried_are = carried mode t.carried_are;
    sent_are = λ id ms is. of_longer taken (m ∷ []) (sent_under p.sent id) ms (t.sent_are id ms is);
    unsent = t.unsent;
    held_are = of_longer taken (m ∷ []) p.held (receiver.held_by at) t.held_are;
    got_are = subst (AreOf (taken ++ m ∷ []) p.got) (sym (append-nil gotten)) (of_longer taken (m ∷ []) p.got gotten t.got_are);
  }
    where
      carried : (mode : SenderMode) → AreCarried taken mode p.carried → AreCarried (taken ++ m ∷ []) mode p.carried
      carried (sending.Quiet got) c = tt
      carried (sending.NeedId jd load) c = of_longer taken (m ∷ []) p.carried (messages_in load) c
      carried (sending.Send id load) c = tt
      carried sending.Down c = tt

  -- an act that puts nothing and gets nothing
  plain : (mode : SenderMode) (waiting : List (List ℕ)) (there : ReceiverMode) (packets others : List OwnedPacket) (p : Puts)
      → TiesAt mode waiting there packets others p taken gotten → TiesAt mode waiting there packets others p (taken ++ [])
      (gotten ++ [])
  plain mode waiting there packets others p t =
      subst (λ (xs : List (List ℕ)). TiesAt mode waiting there packets others p xs (gotten ++ [])) (sym (append-nil taken))
      (subst (TiesAt mode waiting there packets others p taken) (sym (append-nil gotten)) t)

  -- the ties after a row of the sender's table
  abbrev SenderTies : SenderMode → Act → Row sender.SenderState → Puts → Type 0
  SenderTies mode a row p =
      TiesAt row.state.mode row.state.waiting at (option_to_list row.emitted ++ from_sender) from_receiver
      (sender_moved mode row.state.mode (called a row.reply p)) (taken ++ message_put a row.reply)
      (gotten ++ message_got a row.reply)

  put_either : (full : Bool) (mode : SenderMode) (waiting : List (List ℕ)) (m : List ℕ) (p : Puts) → Before mode waiting p
      → ((q : Puts) → sender_moved mode mode q ≡ q)
      → SenderTies mode (act.Put m) (if full then silent (state mode waiting) reply.Full else silent (state mode
      (waiting ++ m ∷ [])) reply.Ok) p
  put_either true mode waiting m p t same = rw (same p) (plain mode waiting at from_sender from_receiver p t)
  put_either false mode waiting m p t same =
      rw (same (record p { count = p.count + 1; waiting = p.waiting ++ p.count ∷ [] })) (puts mode waiting m p t)

  put_ties : (mode : SenderMode) (waiting : List (List ℕ)) (m : List ℕ) (p : Puts) → Before mode waiting p → Facts mode waiting
      → SenderTies mode (act.Put m) (sender.put (state mode waiting) mode m) p
  put_ties (sending.Quiet got) waiting m p t f = put_either (eqb (length waiting) 16) (sending.Quiet got) waiting m p t
      (λ q. refl)
  put_ties (sending.NeedId jd load) waiting m p t f = put_either (eqb (length waiting) 16)
      (sending.NeedId jd load) waiting m p t (λ q. refl)
  put_ties (sending.Send id load) waiting m p t f = put_either (eqb (length waiting) 16) (sending.Send id load) waiting m p t
      (λ q. refl)
  put_ties sending.Down waiting m p t f =
      plain sending.Down waiting at from_sender from_receiver (record p { waiting = [] }) (stays_down waiting p t f)

  get_ack_plain : (mode : SenderMode) (waiting : List (List ℕ)) (p : Puts) → Before mode waiting p → Facts mode waiting
      → SenderTies mode act.Ack (sender.get_ack (state mode waiting) mode waiting) p
  get_ack_plain mode waiting p t f = plain _ _ at _ from_receiver _ (get_ack_ties mode waiting p t f)

  -- a packet that comes was emitted by the receiver
  abbrev CameFromOther : Act → Type 0
  CameFromOther (act.Deliver p word) = Contains from_receiver p
  CameFromOther _ = Unit {0}

  -- each row of the sender's table
  pub sender_ties : (mode : SenderMode) (waiting : List (List ℕ)) (a : Act) (p : Puts) → Before mode waiting p
      → Facts mode waiting
      → CameFromOther a → SenderTies mode a (sender.row (state mode waiting) a) p
  sender_ties mode waiting (act.Put m) p t f came = put_ties mode waiting m p t f
  sender_ties mode waiting act.Get p t f came = plain _ _ at _ from_receiver _ (nothing mode waiting p t f)
  sender_ties mode waiting act.Ack p t f came = get_ack_plain mode waiting p t f
  sender_ties mode waiting (act.Start word) p t f came = plain _ _ at _ from_receiver _ (start_ties mode waiting word p t f)
  sender_ties mode waiting (act.Batch word) p t f came = plain _ _ at _ from_receiver _ (batch_ties mode waiting word p t f)
  sender_ties mode waiting act.Resend p t f came = plain _ _ at _ from_receiver _ (resend_ties mode waiting p t f)
  sender_ties mode waiting (act.Deliver b word) p t f came =
      plain _ _ at _ from_receiver _ (deliver_ties mode waiting b.body p t f (λ P is. any-contains P from_receiver b came is))
  sender_ties mode waiting act.Crash p t f came = plain _ _ at _ from_receiver _ (crash_ties mode waiting p t)
  sender_ties mode waiting act.Recover p t f came = plain _ _ at _ from_receiver _ (recover_ties mode waiting p t f)
