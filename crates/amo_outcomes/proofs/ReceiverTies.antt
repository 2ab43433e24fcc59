-- The messages of the puts, after each row of the receiver's table.
use Rattle.std.proofs.Common.{◌≡◌, ℕ, true, false, eqb, List, [], ◌∷◌, ◌++◌, take, drop, refl, sym, subst, inl, inr}
use Rattle.std.specs.List.{Contains}
use Rattle.std.specs.Option.{option_to_list}
use Rattle.std.proofs.lemmas.Bool.Decides.{eqb_tells}
use Rattle.std.proofs.lemmas.List.{append-nil}
use Rattle.amo_packet.specs.declared.packet.OwnedPacket.{OwnedPacket}
use Rattle.amo_packet.specs.declared.packet.OwnedBody.{OwnedBody}
use Rattle.amo_packet.specs.declared.packet.OwnedBody.TheVariants as packet
use Rattle.amo_packet.specs.Batch.{Batch, alone, messages}
use Rattle.amo_core.specs.declared.act.Act.{Act}
use Rattle.amo_core.specs.declared.act.Act.TheVariants as act
use Rattle.amo_core.specs.Row.{Row}
use Rattle.amo_core.specs.Receiver as receiver
use Rattle.amo_core.specs.declared.sender.SenderMode.{SenderMode}
use Rattle.amo_core.specs.declared.receiver.ReceiverMode.{ReceiverMode}
use Rattle.amo_core.specs.declared.receiver.ReceiverMode.TheVariants as receiving
use Rattle.amo_world.proofs.Packets.{Any, IsSend, any-contains}
use Rattle.amo_outcomes.specs.Puts.{Puts, sent_under, called, receiver_moved}
use Rattle.amo_outcomes.specs.Outcome.{AreOf}
use Rattle.amo_outcomes.proofs.Ties.{TiesAt, message_put, message_got, of_append, of_take, of_drop}

module _ (mode : SenderMode) (waiting : List (List ℕ)) (n : ℕ) (from_sender from_receiver : List OwnedPacket)
    (taken gotten : List (List ℕ)) where
  abbrev state : ReceiverMode → receiver.ReceiverState
  state at = record { stream = n; mode = at }

  abbrev bears : OwnedBody → OwnedPacket
  bears body = record { stream = n; body = body }

  abbrev Before : ReceiverMode → Puts → Type 0
  Before at p = TiesAt mode waiting at from_sender from_receiver p taken gotten

  -- after a row of an act that gets nothing
  abbrev After : ReceiverMode → Row receiver.ReceiverState → Puts → Type 0
  After at row p =
      TiesAt mode waiting row.state.mode from_sender (option_to_list row.emitted ++ from_receiver)
      (receiver_moved at row.state.mode p) taken gotten

  -- in another mode, with other puts held
  with_held : (at now : ReceiverMode) (p : Puts) (held : List ℕ) → Before at p → AreOf taken held (receiver.held_by now)
      → Before now (record p { held = held })
  with_held at now p held t are = record {
    count = t.count;
    waiting_are = t.waiting_are;
    carried_are = t.carried_are;
    sent_are = t.sent_are;
    unsent = t.unsent;
    held_are = are;
    got_are = t.got_are;
  }

  -- with a packet more emitted
  with_packet : (at : ReceiverMode) (p : Puts) (packet : OwnedPacket) → Before at p
      → TiesAt mode waiting at from_sender (packet ∷ from_receiver) p taken gotten
  with_packet at p packet t = record {
    count = t.count;
    waiting_are = t.waiting_are;
    carried_are = t.carried_are;
    sent_are = t.sent_are;
    unsent = λ id none. t.unsent id (λ earlier. none (inr earlier));
    held_are = t.held_are;
    got_are = t.got_are;
  }

  -- nothing happens
  nothing : (at : ReceiverMode) (p : Puts) → Before at p → Before at (receiver_moved at at p)
  nothing receiving.Idle p t = t
  nothing (receiving.Accept jd id) p t = t
  nothing (receiving.Rcvd id b) p t = t
  nothing (receiving.Ack id) p t = t
  nothing receiving.Down p t = with_held receiving.Down receiving.Down p [] t tt

  needuid_ties : (at : ReceiverMode) (jd word : ℕ) (p : Puts) → Before at p → After at (receiver.needuid (state at) at jd word) p
  needuid_ties receiving.Idle jd word p t =
      with_packet (receiving.Accept jd word) p (bears (packet.Accept jd word))
      (with_held receiving.Idle (receiving.Accept jd word) p p.held t t.held_are)
  needuid_ties (receiving.Accept asked id) jd word p t = elim (eqb_tells asked jd) [
    | inl h ↦ rw h.0 (with_packet (receiving.Accept asked id) p (bears (packet.Accept jd id)) t)
    | inr h ↦ rw h.0 t
  ]
  needuid_ties (receiving.Rcvd id b) jd word p t = t
  needuid_ties (receiving.Ack id) jd word p t = t
  needuid_ties receiving.Down jd word p t = nothing receiving.Down p t

  -- a batch that came, and so a send: its messages are those of the puts that travel under its identifier
  batch_ties : (at : ReceiverMode) (id : ℕ) (b : Batch) (p : Puts) → Before at p → Any (IsSend id (messages b)) from_sender
      → After at (receiver.batch (state at) at id b) p
  batch_ties receiving.Idle id b p t came = with_packet receiving.Idle p (bears (packet.Ack id false)) t
  batch_ties (receiving.Accept jd accepted) id b p t came = elim (eqb_tells accepted id) [
    | inl h ↦ rw h.0
        (with_held (receiving.Accept jd accepted) (receiving.Rcvd id b) p (sent_under p.sent id) t (t.sent_are id
        (messages b) came))
    | inr h ↦ rw h.0 (with_packet (receiving.Accept jd accepted) p (bears (packet.Ack id false)) t)
  ]
  batch_ties (receiving.Rcvd under held) id b p t came = elim (eqb_tells under id) [
    | inl h ↦ rw h.0 t
    | inr h ↦ rw h.0 (with_packet (receiving.Rcvd under held) p (bears (packet.Ack id false)) t)
  ]
  batch_ties (receiving.Ack under) id b p t came = with_packet (receiving.Ack under) p (bears (packet.Ack id (eqb under id))) t
  batch_ties receiving.Down id b p t came = nothing receiving.Down p t

  cleanup_ties : (at : ReceiverMode) (id : ℕ) (p : Puts) → Before at p → After at (receiver.cleanup (state at) at id) p
  cleanup_ties receiving.Idle id p t = t
  cleanup_ties (receiving.Accept jd accepted) id p t = elim (eqb_tells accepted id) [
    | inl h ↦ rw h.0 (with_held (receiving.Accept jd accepted) receiving.Idle p p.held t t.held_are)
    | inr h ↦ rw h.0 t
  ]
  cleanup_ties (receiving.Rcvd under held) id p t = t
  cleanup_ties (receiving.Ack under) id p t = elim (eqb_tells under id) [
    | inl h ↦ rw h.0 (with_held (receiving.Ack under) receiving.Idle p p.held t t.held_are)
    | inr h ↦ rw h.0 t
  ]
  cleanup_ties receiving.Down id p t = nothing receiving.Down p t

  -- a packet that comes: all that holds of it holds of one that the sender emitted
  deliver_ties : (at : ReceiverMode) (body : OwnedBody) (word : ℕ) (p : Puts) → Before at p
      → ((P : OwnedBody → Type 0) → P body → Any P from_sender) → After at (receiver.deliver (state at) body word) p
  deliver_ties at (packet.NeedUid jd) word p t said = needuid_ties at jd word p t
  deliver_ties at (packet.Accept jd id) word p t said = nothing at p t
  deliver_ties at (packet.Send id m) word p t said = batch_ties at id (alone m) p t (said (IsSend id (m ∷ [])) (refl, refl))
  deliver_ties at (packet.Ack id got) word p t said = nothing at p t
  deliver_ties at (packet.Cleanup id) word p t said = cleanup_ties at id p t
  deliver_ties at (packet.Batch id b) word p t said = batch_ties at id b p t (said (IsSend id (messages b)) (refl, refl))

  resend_ties : (at : ReceiverMode) (p : Puts) → Before at p → After at (receiver.resend (state at) at) p
  resend_ties receiving.Idle p t = t
  resend_ties (receiving.Accept jd id) p t = with_packet (receiving.Accept jd id) p (bears (packet.Accept jd id)) t
  resend_ties (receiving.Rcvd id b) p t = t
  resend_ties (receiving.Ack id) p t = with_packet (receiving.Ack id) p (bears (packet.Ack id true)) t
  resend_ties receiving.Down p t = nothing receiving.Down p t

  crash_ties : (at : ReceiverMode) (p : Puts) → Before at p → Before receiving.Down (receiver_moved at receiving.Down p)
  crash_ties receiving.Idle p t = with_held _ receiving.Down p [] t tt
  crash_ties (receiving.Accept jd id) p t = with_held _ receiving.Down p [] t tt
  crash_ties (receiving.Rcvd id b) p t = with_held _ receiving.Down p [] t tt
  crash_ties (receiving.Ack id) p t = with_held _ receiving.Down p [] t tt
  crash_ties receiving.Down p t = with_held _ receiving.Down p [] t tt

  recover_ties : (at : ReceiverMode) (p : Puts) → Before at p → After at (receiver.recover (state at) at) p
  recover_ties receiving.Idle p t = t
  recover_ties (receiving.Accept jd id) p t = t
  recover_ties (receiving.Rcvd id b) p t = t
  recover_ties (receiving.Ack id) p t = t
  recover_ties receiving.Down p t = with_held receiving.Down receiving.Idle p p.held t t.held_are

  -- an act that puts nothing and gets nothing
  plain : (at : ReceiverMode) (packets : List OwnedPacket) (p : Puts) → TiesAt mode waiting at from_sender packets p taken gotten
      → TiesAt mode waiting at from_sender packets p (taken ++ []) (gotten ++ [])
  plain at packets p t =
      subst (λ (xs : List (List ℕ)). TiesAt mode waiting at from_sender packets p xs (gotten ++ [])) (sym (append-nil taken))
      (subst (TiesAt mode waiting at from_sender packets p taken) (sym (append-nil gotten)) t)

  -- the ties after a row of the receiver's table
  abbrev ReceiverTies : ReceiverMode → Act → Row receiver.ReceiverState → Puts → Type 0
  ReceiverTies at a row p =
      TiesAt mode waiting row.state.mode from_sender (option_to_list row.emitted ++ from_receiver)
      (receiver_moved at row.state.mode (called a row.reply p)) (taken ++ message_put a row.reply)
      (gotten ++ message_got a row.reply)

  -- the first message that is held is got
  gets : (id : ℕ) (first : List ℕ) (rest : List (List ℕ)) (now : ReceiverMode) (p : Puts)
      → Before (receiving.Rcvd id (record { first = first; rest = rest })) p → receiver.held_by now ≡ rest
      → TiesAt mode waiting now from_sender from_receiver (record p { held = drop 1 p.held; got = p.got ++ take 1 p.held })
      (taken ++ [])
      (gotten ++ first ∷ [])
  gets id first rest now p t left =
      subst (λ (xs : List (List ℕ)). TiesAt mode waiting now from_sender from_receiver q xs (gotten ++ first ∷ [])) (sym
      (append-nil taken)) (record {
        count = t.count;
        waiting_are = t.waiting_are;
        carried_are = t.carried_are;
        sent_are = t.sent_are;
        unsent = t.unsent;
        held_are = subst (AreOf taken (drop 1 p.held)) (sym left) (of_drop taken p.held (first ∷ []) rest t.held_are);
        got_are =
            of_append taken p.got (take 1 p.held) gotten (first ∷ []) t.got_are (of_take taken p.held
            (first ∷ []) rest t.held_are);
      })
    where
      q : Puts
      q = record p { held = drop 1 p.held; got = p.got ++ take 1 p.held }

  get_ties : (at : ReceiverMode) (p : Puts) → Before at p → ReceiverTies at act.Get (receiver.get (state at) at) p
  get_ties receiving.Idle p t = plain receiving.Idle from_receiver p t
  get_ties (receiving.Accept jd id) p t = plain (receiving.Accept jd id) from_receiver p t
  get_ties (receiving.Rcvd id b) p t = by b.rest t
    where
      by : (rest : List (List ℕ)) → Before (receiving.Rcvd id (record { first = b.first; rest = rest })) p
          → TiesAt mode waiting (receiver.with_rest id rest) from_sender from_receiver
          (receiver_moved (receiving.Rcvd id b) (receiver.with_rest id rest)
          (record p { held = drop 1 p.held; got = p.got ++ take 1 p.held }))
          (taken ++ []) (gotten ++ b.first ∷ [])
      by [] t = gets id b.first [] (receiving.Ack id) p t refl
      by (m ∷ rest) t = gets id b.first (m ∷ rest) (receiving.Rcvd id (record { first = m; rest = rest })) p t refl
  get_ties (receiving.Ack id) p t = plain (receiving.Ack id) from_receiver p t
  get_ties receiving.Down p t = plain receiving.Down from_receiver (record p { held = [] }) (nothing receiving.Down p t)

  -- a packet that comes was emitted by the sender
  abbrev CameFromOther : Act → Type 0
  CameFromOther (act.Deliver p word) = Contains from_sender p
  CameFromOther _ = Unit {0}

  -- each row of the receiver's table
  pub receiver_ties : (at : ReceiverMode) (a : Act) (p : Puts) → Before at p → CameFromOther a
      → ReceiverTies at a (receiver.row (state at) a) p
  receiver_ties at (act.Put m) p t came = plain _ from_receiver _ (nothing at p t)
  receiver_ties at act.Get p t came = get_ties at p t
  receiver_ties at act.Ack p t came = plain _ from_receiver _ (nothing at p t)
  receiver_ties at (act.Start word) p t came = plain _ from_receiver _ (nothing at p t)
  receiver_ties at (act.Batch word) p t came = plain _ from_receiver _ (nothing at p t)
  receiver_ties at act.Resend p t came = plain _ _ _ (resend_ties at p t)
  receiver_ties at (act.Deliver b word) p t came =
      plain _ _ _ (deliver_ties at b.body word p t (λ P is. any-contains P from_sender b came is))
  receiver_ties at act.Crash p t came = plain _ from_receiver _ (crash_ties at p t)
  receiver_ties at act.Recover p t came = plain _ _ _ (recover_ties at p t)
