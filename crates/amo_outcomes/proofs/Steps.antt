-- One act: what was got stays so, and what is got or open after it was so before it, or is put by it, in the same order.
use Rattle.std.proofs.Common.{◌≡◌, ℕ, ◌+◌, Bool, true, false, eqb, if◌then◌else◌, Option, Some, IfSome, List, [], ◌∷◌, ◌++◌, length, take, drop, refl, sym, ◌∙◌, subst, inl, inr, append_assoc, arith}
use Rattle.std.proofs.lemmas.Bool.Decides.{eqb_tells}
use Rattle.std.proofs.lemmas.List.{append-nil, take-append-drop}
use Rattle.amo_object.specs.Delivery.{IsSubsequence}
use Rattle.amo_packet.specs.declared.packet.OwnedBody.{OwnedBody}
use Rattle.amo_packet.specs.declared.packet.OwnedBody.TheVariants as packet
use Rattle.amo_packet.specs.Batch.{Batch, alone}
use Rattle.amo_core.specs.declared.act.Act.{Act}
use Rattle.amo_core.specs.declared.act.Act.TheVariants as act
use Rattle.amo_core.specs.declared.reply.Reply.{Reply}
use Rattle.amo_core.specs.declared.reply.Reply.TheVariants as reply
use Rattle.amo_core.specs.declared.payload.Payload.{Payload}
use Rattle.amo_core.specs.declared.payload.Payload.TheVariants as payload
use Rattle.amo_core.specs.Row.{Row, silent}
use Rattle.amo_core.specs.Sender as sender
use Rattle.amo_core.specs.Receiver as receiver
use Rattle.amo_core.specs.declared.sender.SenderMode.{SenderMode}
use Rattle.amo_core.specs.declared.sender.SenderMode.TheVariants as sending
use Rattle.amo_core.specs.declared.receiver.ReceiverMode.{ReceiverMode}
use Rattle.amo_core.specs.declared.receiver.ReceiverMode.TheVariants as receiving
use Rattle.amo_outcomes.specs.Puts.{Puts, sent_under, called, sender_moved, receiver_moved}
use Rattle.amo_outcomes.specs.Outcome.{arriving, asking, open_of}
use Rattle.amo_outcomes.proofs.Parts.{part_same, part_before, part_behind, part_none, part_next}

-- the put that an act makes, if it was taken
abbrev pub put_by : Act → Option Reply → ℕ → List ℕ
put_by (act.Put m) (Some reply.Ok) put = put ∷ []
put_by _ _ put = []

-- from one state of both sides and the puts to another, by an act that makes these puts
pub record Steps (mode : SenderMode) (at : ReceiverMode) (p : Puts) (new : List ℕ) (now : SenderMode) (there : ReceiverMode)
    (q : Puts) : Type 0 where
  pub part : IsSubsequence (q.got ++ open_of now there q) (p.got ++ (open_of mode at p ++ new))
  pub more : List ℕ
  pub kept : q.got ≡ p.got ++ more
  pub count : q.count ≡ p.count + length new

-- where nothing more is got and nothing is put, the open ones are a part of those before
fewer : (mode now : SenderMode) (at there : ReceiverMode) (p q : Puts) → q.got ≡ p.got → q.count ≡ p.count
    → IsSubsequence (open_of now there q) (open_of mode at p) → Steps mode at p [] now there q
fewer mode now at there p q same count sub = record {
  part =
      subst (λ (got : List ℕ). IsSubsequence (got ++ open_of now there q) (p.got ++ (open_of mode at p ++ []))) (sym same)
      (part_before p.got
      (subst (IsSubsequence (open_of now there q)) (sym (append-nil (open_of mode at p))) sub));
  more = [];
  kept = same ∙ sym (append-nil p.got);
  count = omega (arith, count);
}

module _ (at : ReceiverMode) (n : ℕ) where
  -- a sender in this mode, with these messages waiting
  abbrev state : SenderMode → List (List ℕ) → sender.SenderState
  state mode waiting = record { stream = n; mode = mode; waiting = waiting }

  -- the step of a row of the sender's table
  abbrev SenderSteps : SenderMode → Act → Row sender.SenderState → Puts → Type 0
  SenderSteps mode a row p =
      Steps mode at p (put_by a row.reply p.count) row.state.mode at (sender_moved mode row.state.mode (called a row.reply p))

  -- nothing changes
  stays : (mode : SenderMode) (p : Puts) → Steps mode at p [] mode at p
  stays mode p = fewer mode mode at at p p refl refl (part_same (open_of mode at p))

  -- a sender that asked for nothing, or asks for nothing now
  rests : (mode now : SenderMode) (p : Puts) → asking now p.carried ≡ [] → Steps mode at p [] now at p
  rests mode now p none =
      fewer mode now at at p p refl refl
      (subst (λ (xs : List ℕ). IsSubsequence (arriving at p.sent p.held ++ (xs ++ p.waiting)) (open_of mode at p)) (sym none)
      (part_before (arriving at p.sent p.held) (part_behind (asking mode p.carried) (part_same p.waiting))))

  -- what waits is forgotten
  forgets : (mode now : SenderMode) (p : Puts) → asking now p.carried ≡ [] → Steps mode at p [] now at (record p { waiting = [] })
  forgets mode now p none =
      fewer mode now at at p (record p { waiting = [] }) refl refl
      (part_before (arriving at p.sent p.held)
      (subst (λ (xs : List ℕ). IsSubsequence (xs ++ []) (asking mode p.carried ++ p.waiting)) (sym none)
      (part_none (asking mode p.carried ++ p.waiting))))

  -- one more waits
  puts : (mode : SenderMode) (p : Puts)
      → Steps mode at p (p.count ∷ []) mode at (record p { count = p.count + 1; waiting = p.waiting ++ p.count ∷ [] })
  puts mode p = record {
    part = part_before p.got (subst (IsSubsequence longer) same (part_same longer));
    more = [];
    kept = sym (append-nil p.got);
    count = refl;
  }
    where
      longer : List ℕ
      longer = arriving at p.sent p.held ++ (asking mode p.carried ++ (p.waiting ++ p.count ∷ []))

      same : longer ≡ open_of mode at p ++ p.count ∷ []
      same = simp append_assoc

  put_either : (full : Bool) (mode : SenderMode) (waiting : List (List ℕ)) (m : List ℕ) (p : Puts)
      → ((q : Puts) → sender_moved mode mode q ≡ q)
      → SenderSteps mode (act.Put m) (if full then silent (state mode waiting) reply.Full else silent (state mode
      (waiting ++ m ∷ [])) reply.Ok) p
  put_either true mode waiting m p same = rw (same p) (stays mode p)
  put_either false mode waiting m p same = rw (same (record p { count = p.count + 1; waiting = p.waiting ++ p.count ∷ [] }))
      (puts mode p)

  put_steps : (mode : SenderMode) (waiting : List (List ℕ)) (m : List ℕ) (p : Puts)
      → SenderSteps mode (act.Put m) (sender.put (state mode waiting) mode m) p
  put_steps (sending.Quiet got) waiting m p = put_either (eqb (length waiting) 16) (sending.Quiet got) waiting m p (λ q. refl)
  put_steps (sending.NeedId jd load) waiting m p = put_either (eqb (length waiting) 16) (sending.NeedId jd load) waiting m p
      (λ q. refl)
  put_steps (sending.Send id load) waiting m p = put_either (eqb (length waiting) 16) (sending.Send id load) waiting m p
      (λ q. refl)
  put_steps sending.Down waiting m p = forgets sending.Down sending.Down p refl

  -- a row that leaves the mode as it is, of an act that is no call that is answered
  quiet_steps : (mode : SenderMode) (p : Puts) → Steps mode at p [] mode at (sender_moved mode mode p)
  quiet_steps (sending.Quiet got) p = stays (sending.Quiet got) p
  quiet_steps (sending.NeedId jd load) p = stays (sending.NeedId jd load) p
  quiet_steps (sending.Send id load) p = stays (sending.Send id load) p
  quiet_steps sending.Down p = forgets sending.Down sending.Down p refl

  get_ack_steps : (mode : SenderMode) (waiting : List (List ℕ)) (p : Puts)
      → SenderSteps mode act.Ack (sender.get_ack (state mode waiting) mode waiting) p
  get_ack_steps (sending.Quiet true) [] p = stays _ p
  get_ack_steps (sending.Quiet true) (m ∷ waiting) p = stays _ p
  get_ack_steps (sending.Quiet false) [] p = stays _ p
  get_ack_steps (sending.Quiet false) (m ∷ waiting) p = stays _ p
  get_ack_steps (sending.NeedId jd load) waiting p = stays _ p
  get_ack_steps (sending.Send id load) waiting p = stays _ p
  get_ack_steps sending.Down waiting p = forgets sending.Down sending.Down p refl

  -- a handshake begins for the first ones that wait
  begins : (got : Bool) (jd : ℕ) (load : Payload) (p : Puts)
      → Steps (sending.Quiet got) at p [] (sending.NeedId jd load) at (sender_moved (sending.Quiet got)
      (sending.NeedId jd load) p)
  begins got jd load p =
      let many = length (sender.messages_in load) in
      fewer (sending.Quiet got) (sending.NeedId jd load) at at p
      (record p { waiting = drop many p.waiting; carried = take many p.waiting }) refl refl
      (part_before (arriving at p.sent p.held)
      (subst (λ (xs : List ℕ). IsSubsequence xs p.waiting) (sym (take-append-drop many p.waiting)) (part_same p.waiting)))

  start_steps : (mode : SenderMode) (waiting : List (List ℕ)) (word : ℕ) (p : Puts)
      → SenderSteps mode (act.Start word) (sender.start (state mode waiting) mode waiting word) p
  start_steps (sending.Quiet got) [] word p = stays _ p
  start_steps (sending.Quiet got) (m ∷ waiting) word p = begins got word (payload.Message m) p
  start_steps (sending.NeedId jd load) waiting word p = stays _ p
  start_steps (sending.Send id load) waiting word p = stays _ p
  start_steps sending.Down waiting word p = forgets sending.Down sending.Down p refl

  batch_steps : (mode : SenderMode) (waiting : List (List ℕ)) (word : ℕ) (p : Puts)
      → SenderSteps mode (act.Batch word) (sender.start_batch (state mode waiting) mode waiting word) p
  batch_steps (sending.Quiet got) [] word p = stays _ p
  batch_steps (sending.Quiet got) (m ∷ waiting) word p = begins got word _ p
  batch_steps (sending.NeedId jd load) waiting word p = stays _ p
  batch_steps (sending.Send id load) waiting word p = stays _ p
  batch_steps sending.Down waiting word p = forgets sending.Down sending.Down p refl

  resend_steps : (mode : SenderMode) (waiting : List (List ℕ)) (p : Puts)
      → SenderSteps mode act.Resend (sender.resend (state mode waiting) mode) p
  resend_steps (sending.Quiet got) waiting p = stays _ p
  resend_steps (sending.NeedId jd load) waiting p = stays _ p
  resend_steps (sending.Send id load) waiting p = stays _ p
  resend_steps sending.Down waiting p = forgets sending.Down sending.Down p refl

  -- what was asked for is sent: it arrives where the receiver accepts the identifier, and else nowhere
  sends : (jd id : ℕ) (load : Payload) (p : Puts)
      → Steps (sending.NeedId jd load) at p [] (sending.Send id load) at (sender_moved (sending.NeedId jd load)
      (sending.Send id load) p)
  sends jd id load p =
      fewer (sending.NeedId jd load) (sending.Send id load) at at p
      (record p { sent = record { id = id; puts = p.carried } ∷ p.sent }) refl refl
      (part at)
    where
      either : (here : Bool) (before : List ℕ) → IsSubsequence ((if here then p.carried else before) ++ p.waiting) (before ++
          (p.carried ++ p.waiting))
      either true before = part_behind before (part_same (p.carried ++ p.waiting))
      either false before = part_before before (part_behind p.carried (part_same p.waiting))

      part : (at : ReceiverMode)
          → IsSubsequence (arriving at (record { id = id; puts = p.carried } ∷ p.sent) p.held ++ ([] ++ p.waiting))
          (arriving at p.sent p.held ++ (p.carried ++ p.waiting))
      part receiving.Idle = part_behind p.carried (part_same p.waiting)
      part (receiving.Accept jd accepted) = either (eqb id accepted) (sent_under p.sent accepted)
      part (receiving.Rcvd under b) = part_before p.held (part_behind p.carried (part_same p.waiting))
      part (receiving.Ack under) = part_behind p.carried (part_same p.waiting)
      part receiving.Down = part_behind p.carried (part_same p.waiting)

  accept_steps : (mode : SenderMode) (waiting : List (List ℕ)) (jd id word : ℕ) (k : ℕ) (p : Puts)
      → SenderSteps mode (act.Deliver (record { stream = k; body = packet.Accept jd id }) word) (sender.accept
      (state mode waiting) mode jd id) p
  accept_steps (sending.Quiet got) waiting jd id word k p = stays _ p
  accept_steps (sending.NeedId asked load) waiting jd id word k p = elim (eqb_tells asked jd) [
    | inl h ↦ rw h.0 (sends asked id load p)
    | inr h ↦ rw h.0 (stays (sending.NeedId asked load) p)
  ]
  accept_steps (sending.Send under load) waiting jd id word k p = elim (eqb_tells under id) [
    | inl h ↦ rw h.0 (stays (sending.Send under load) p)
    | inr h ↦ rw h.0 (stays (sending.Send under load) p)
  ]
  accept_steps sending.Down waiting jd id word k p = forgets sending.Down sending.Down p refl

  ack_steps : (mode : SenderMode) (waiting : List (List ℕ)) (id : ℕ) (got : Bool) (word : ℕ) (k : ℕ) (p : Puts)
      → SenderSteps mode (act.Deliver (record { stream = k; body = packet.Ack id got }) word) (sender.ack
      (state mode waiting) mode id got) p
  ack_steps (sending.Quiet was) waiting id true word k p = stays _ p
  ack_steps (sending.Quiet was) waiting id false word k p = stays _ p
  ack_steps (sending.NeedId jd load) waiting id true word k p = stays _ p
  ack_steps (sending.NeedId jd load) waiting id false word k p = stays _ p
  ack_steps (sending.Send under load) waiting id true word k p = elim (eqb_tells under id) [
    | inl h ↦ rw h.0 (rests (sending.Send under load) (sending.Quiet true) p refl)
    | inr h ↦ rw h.0 (stays (sending.Send under load) p)
  ]
  ack_steps (sending.Send under load) waiting id false word k p = elim (eqb_tells under id) [
    | inl h ↦ rw h.0 (rests (sending.Send under load) (sending.Quiet false) p refl)
    | inr h ↦ rw h.0 (stays (sending.Send under load) p)
  ]
  ack_steps sending.Down waiting id got word k p = forgets sending.Down sending.Down p refl

  deliver_steps : (mode : SenderMode) (waiting : List (List ℕ)) (body : OwnedBody) (word : ℕ) (k : ℕ) (p : Puts)
      → SenderSteps mode (act.Deliver (record { stream = k; body = body }) word) (sender.deliver (state mode waiting) body) p
  deliver_steps mode waiting (packet.NeedUid jd) word k p = quiet_steps mode p
  deliver_steps mode waiting (packet.Accept jd id) word k p = accept_steps mode waiting jd id word k p
  deliver_steps mode waiting (packet.Send id m) word k p = quiet_steps mode p
  deliver_steps mode waiting (packet.Ack id got) word k p = ack_steps mode waiting id got word k p
  deliver_steps mode waiting (packet.Cleanup id) word k p = quiet_steps mode p
  deliver_steps mode waiting (packet.Batch id b) word k p = quiet_steps mode p

  crash_steps : (mode : SenderMode) (p : Puts) → Steps mode at p [] sending.Down at (sender_moved mode sending.Down p)
  crash_steps (sending.Quiet got) p = forgets _ sending.Down p refl
  crash_steps (sending.NeedId jd load) p = forgets _ sending.Down p refl
  crash_steps (sending.Send id load) p = forgets _ sending.Down p refl
  crash_steps sending.Down p = forgets _ sending.Down p refl

  recover_steps : (mode : SenderMode) (waiting : List (List ℕ)) (p : Puts)
      → SenderSteps mode act.Recover (sender.recover (state mode waiting) mode) p
  recover_steps (sending.Quiet got) waiting p = stays _ p
  recover_steps (sending.NeedId jd load) waiting p = stays _ p
  recover_steps (sending.Send id load) waiting p = stays _ p
  recover_steps sending.Down waiting p = rests sending.Down (sending.Quiet false) p refl

  -- each row of the sender's table
  pub sender_steps : (mode : SenderMode) (waiting : List (List ℕ)) (a : Act) (p : Puts)
      → SenderSteps mode a (sender.row (state mode waiting) a) p
  sender_steps mode waiting (act.Put m) p = put_steps mode waiting m p
  sender_steps mode waiting act.Get p = quiet_steps mode p
  sender_steps mode waiting act.Ack p = get_ack_steps mode waiting p
  sender_steps mode waiting (act.Start word) p = start_steps mode waiting word p
  sender_steps mode waiting (act.Batch word) p = batch_steps mode waiting word p
  sender_steps mode waiting act.Resend p = resend_steps mode waiting p
  sender_steps mode waiting (act.Deliver b word) p = deliver_steps mode waiting b.body word b.stream p
  sender_steps mode waiting act.Crash p = crash_steps mode p
  sender_steps mode waiting act.Recover p = recover_steps mode waiting p

module _ (mode : SenderMode) (n : ℕ) where
  -- a receiver in this mode
  abbrev at_rest : ReceiverMode → receiver.ReceiverState
  at_rest at = record { stream = n; mode = at }

  -- the step of a row of the receiver's table
  abbrev ReceiverSteps : ReceiverMode → Act → Row receiver.ReceiverState → Puts → Type 0
  ReceiverSteps at a row p =
      Steps mode at p (put_by a row.reply p.count) mode row.state.mode (receiver_moved at row.state.mode (called a row.reply p))

  -- nothing arrives any more
  loses : (at now : ReceiverMode) (p q : Puts) → q.got ≡ p.got → q.count ≡ p.count → q.carried ≡ p.carried → q.waiting ≡ p.waiting
      → arriving now q.sent q.held ≡ [] → Steps mode at p [] mode now q
  loses at now p q got count carried waiting nothing =
      fewer mode mode at now p q got count
      (subst (λ (xs : List ℕ). IsSubsequence (xs ++ (asking mode q.carried ++ q.waiting)) (open_of mode at p)) (sym nothing)
      (subst (λ (xs : List ℕ). IsSubsequence (asking mode xs ++ q.waiting) (open_of mode at p)) (sym carried)
      (subst (λ (xs : List ℕ). IsSubsequence (asking mode p.carried ++ xs) (open_of mode at p)) (sym waiting)
      (part_behind (arriving at p.sent p.held) (part_same (asking mode p.carried ++ p.waiting))))))

  -- nothing changes
  same_mode : (at : ReceiverMode) (p : Puts) → Steps mode at p [] mode at (receiver_moved at at p)
  same_mode receiving.Idle p = fewer mode mode receiving.Idle receiving.Idle p p refl refl (part_same _)
  same_mode (receiving.Accept jd id) p = fewer mode mode (receiving.Accept jd id) (receiving.Accept jd id) p p refl refl
      (part_same _)
  same_mode (receiving.Rcvd id b) p = fewer mode mode (receiving.Rcvd id b) (receiving.Rcvd id b) p p refl refl (part_same _)
  same_mode (receiving.Ack id) p = fewer mode mode (receiving.Ack id) (receiving.Ack id) p p refl refl (part_same _)
  same_mode receiving.Down p = loses receiving.Down receiving.Down p (record p { held = [] }) refl refl refl refl refl

  needuid_steps : (at : ReceiverMode) (jd word : ℕ) (k : ℕ) (p : Puts)
      → IfSome (receiver.accepted_word at (packet.NeedUid jd) word) (λ w. sent_under p.sent w ≡ [])
      → ReceiverSteps at (act.Deliver (record { stream = k; body = packet.NeedUid jd }) word) (receiver.needuid
      (at_rest at) at jd word) p
  needuid_steps receiving.Idle jd word k p new = loses receiving.Idle (receiving.Accept jd word) p p refl refl refl refl new
  needuid_steps (receiving.Accept asked id) jd word k p new = elim (eqb_tells asked jd) [
    | inl h ↦ rw h.0 (same_mode (receiving.Accept asked id) p)
    | inr h ↦ rw h.0 (same_mode (receiving.Accept asked id) p)
  ]
  needuid_steps (receiving.Rcvd id b) jd word k p new = same_mode (receiving.Rcvd id b) p
  needuid_steps (receiving.Ack id) jd word k p new = same_mode (receiving.Ack id) p
  needuid_steps receiving.Down jd word k p new = same_mode receiving.Down p

  -- what arrives is held
  takes : (jd accepted id : ℕ) (b : Batch) (p : Puts) → accepted ≡ id
      → Steps mode (receiving.Accept jd accepted) p [] mode (receiving.Rcvd id b) (record p { held = sent_under p.sent id })
  takes jd accepted id b p same =
      fewer mode mode (receiving.Accept jd accepted) (receiving.Rcvd id b) p (record p { held = sent_under p.sent id }) refl refl
      (subst (λ x. IsSubsequence (sent_under p.sent id ++ (asking mode p.carried ++ p.waiting)) (sent_under p.sent x ++
      (asking mode p.carried ++ p.waiting)))
      (sym same) (part_same _))

  -- the rows of a batch, and so of a send: the act is a delivery
  came_steps : (at : ReceiverMode) (id : ℕ) (b : Batch) (p : Puts) → (let row = receiver.batch (at_rest at) at id b in
      Steps mode at p [] mode row.state.mode (receiver_moved at row.state.mode p))
  came_steps receiving.Idle id b p = same_mode receiving.Idle p
  came_steps (receiving.Accept jd accepted) id b p = elim (eqb_tells accepted id) [
    | inl h ↦ rw h.0 (takes jd accepted id b p h.1)
    | inr h ↦ rw h.0 (same_mode (receiving.Accept jd accepted) p)
  ]
  came_steps (receiving.Rcvd under held) id b p = elim (eqb_tells under id) [
    | inl h ↦ rw h.0 (same_mode (receiving.Rcvd under held) p)
    | inr h ↦ rw h.0 (same_mode (receiving.Rcvd under held) p)
  ]
  came_steps (receiving.Ack under) id b p = same_mode (receiving.Ack under) p
  came_steps receiving.Down id b p = same_mode receiving.Down p

  cleanup_steps : (at : ReceiverMode) (id : ℕ) (p : Puts) → (let row = receiver.cleanup (at_rest at) at id in
      Steps mode at p [] mode row.state.mode (receiver_moved at row.state.mode p))
  cleanup_steps receiving.Idle id p = same_mode receiving.Idle p
  cleanup_steps (receiving.Accept jd accepted) id p = elim (eqb_tells accepted id) [
    | inl h ↦ rw h.0 (loses (receiving.Accept jd accepted) receiving.Idle p p refl refl refl refl refl)
    | inr h ↦ rw h.0 (same_mode (receiving.Accept jd accepted) p)
  ]
  cleanup_steps (receiving.Rcvd under held) id p = same_mode (receiving.Rcvd under held) p
  cleanup_steps (receiving.Ack under) id p = elim (eqb_tells under id) [
    | inl h ↦ rw h.0 (loses (receiving.Ack under) receiving.Idle p p refl refl refl refl refl)
    | inr h ↦ rw h.0 (same_mode (receiving.Ack under) p)
  ]
  cleanup_steps receiving.Down id p = same_mode receiving.Down p

  deliver_steps_there : (at : ReceiverMode) (body : OwnedBody) (word : ℕ) (k : ℕ) (p : Puts)
      → IfSome (receiver.accepted_word at body word) (λ w. sent_under p.sent w ≡ [])
      → ReceiverSteps at (act.Deliver (record { stream = k; body = body }) word) (receiver.deliver (at_rest at) body word) p
  deliver_steps_there at (packet.NeedUid jd) word k p new = needuid_steps at jd word k p new
  deliver_steps_there at (packet.Accept jd id) word k p new = same_mode at p
  deliver_steps_there at (packet.Send id m) word k p new = came_steps at id (alone m) p
  deliver_steps_there at (packet.Ack id got) word k p new = same_mode at p
  deliver_steps_there at (packet.Cleanup id) word k p new = cleanup_steps at id p
  deliver_steps_there at (packet.Batch id b) word k p new = came_steps at id b p

  -- the first put that is held is got
  gets : (id : ℕ) (b : Batch) (now : ReceiverMode) (p : Puts)
      → IsSubsequence (arriving now p.sent (drop 1 p.held)) (drop 1 p.held)
      → Steps mode (receiving.Rcvd id b) p [] mode now (record p { held = drop 1 p.held; got = p.got ++ take 1 p.held })
  gets id b now p less = record {
    part =
        subst (λ (xs : List ℕ). IsSubsequence xs (p.got ++ (open_of mode (receiving.Rcvd id b) p ++ [])))
        (sym (append_assoc p.got (take 1 p.held) (arriving now p.sent (drop 1 p.held) ++ (asking mode p.carried ++ p.waiting))))
        (part_before p.got
        (subst (IsSubsequence (take 1 p.held ++ (arriving now p.sent (drop 1 p.held) ++ (asking mode p.carried ++ p.waiting))))
        (sym (append-nil (p.held ++ (asking mode p.carried ++ p.waiting))))
        (part_next p.held (arriving now p.sent (drop 1 p.held)) (asking mode p.carried ++ p.waiting) less)));
    more = take 1 p.held;
    kept = refl;
    count = omega arith;
  }

  get_steps : (at : ReceiverMode) (p : Puts) → ReceiverSteps at act.Get (receiver.get (at_rest at) at) p
  get_steps receiving.Idle p = same_mode receiving.Idle p
  get_steps (receiving.Accept jd id) p = same_mode (receiving.Accept jd id) p
  get_steps (receiving.Rcvd id b) p = by b.rest
    where
      by : (rest : List (List ℕ)) → Steps mode (receiving.Rcvd id b) p [] mode (receiver.with_rest id rest)
          (receiver_moved (receiving.Rcvd id b) (receiver.with_rest id rest)
          (record p { held = drop 1 p.held; got = p.got ++ take 1 p.held }))
      by [] = gets id b (receiving.Ack id) p (part_none (drop 1 p.held))
      by (m ∷ rest) = gets id b (receiving.Rcvd id (record { first = m; rest = rest })) p (part_same (drop 1 p.held))
  get_steps (receiving.Ack id) p = same_mode (receiving.Ack id) p
  get_steps receiving.Down p = same_mode receiving.Down p

  crash_steps_there : (at : ReceiverMode) (p : Puts) → Steps mode at p [] mode receiving.Down (receiver_moved at receiving.Down p)
  crash_steps_there receiving.Idle p = loses receiving.Idle receiving.Down p (record p { held = [] }) refl refl refl refl refl
  crash_steps_there (receiving.Accept jd id) p = loses (receiving.Accept jd id) receiving.Down p
      (record p { held = [] }) refl refl refl refl refl
  crash_steps_there (receiving.Rcvd id b) p = loses (receiving.Rcvd id b) receiving.Down p
      (record p { held = [] }) refl refl refl refl refl
  crash_steps_there (receiving.Ack id) p = loses (receiving.Ack id) receiving.Down p
      (record p { held = [] }) refl refl refl refl refl
  crash_steps_there receiving.Down p = loses receiving.Down receiving.Down p (record p { held = [] }) refl refl refl refl refl

  recover_steps_there : (at : ReceiverMode) (p : Puts) → ReceiverSteps at act.Recover (receiver.recover (at_rest at) at) p
  recover_steps_there receiving.Idle p = same_mode receiving.Idle p
  recover_steps_there (receiving.Accept jd id) p = same_mode (receiving.Accept jd id) p
  recover_steps_there (receiving.Rcvd id b) p = same_mode (receiving.Rcvd id b) p
  recover_steps_there (receiving.Ack id) p = same_mode (receiving.Ack id) p
  recover_steps_there receiving.Down p = loses receiving.Down receiving.Idle p p refl refl refl refl refl

  resend_steps_there : (at : ReceiverMode) (p : Puts) → ReceiverSteps at act.Resend (receiver.resend (at_rest at) at) p
  resend_steps_there receiving.Idle p = same_mode receiving.Idle p
  resend_steps_there (receiving.Accept jd id) p = same_mode (receiving.Accept jd id) p
  resend_steps_there (receiving.Rcvd id b) p = same_mode (receiving.Rcvd id b) p
  resend_steps_there (receiving.Ack id) p = same_mode (receiving.Ack id) p
  resend_steps_there receiving.Down p = same_mode receiving.Down p

  -- each row of the receiver's table, where nothing travels under a word that it uses up
  pub receiver_steps : (at : ReceiverMode) (a : Act) (p : Puts)
      → IfSome (receiver.used_word (at_rest at) a) (λ word. sent_under p.sent word ≡ [])
      → ReceiverSteps at a (receiver.row (at_rest at) a) p
  receiver_steps at (act.Put m) p new = same_mode at p
  receiver_steps at act.Get p new = get_steps at p
  receiver_steps at act.Ack p new = same_mode at p
  receiver_steps at (act.Start word) p new = same_mode at p
  receiver_steps at (act.Batch word) p new = same_mode at p
  receiver_steps at act.Resend p new = resend_steps_there at p
  receiver_steps at (act.Deliver b word) p new = deliver_steps_there at b.body word b.stream p new
  receiver_steps at act.Crash p new = crash_steps_there at p
  receiver_steps at act.Recover p new = recover_steps_there at p
