-- The rows of the sender's table, by what they change of the mode, of what waits, and of the puts.
use Rattle.std.proofs.Common.{◌≡◌, ℕ, ◌+◌, Bool, true, false, eqb, if◌then◌else◌, Option, Some, List, [], ◌∷◌, ◌++◌, length, take, drop, refl, inl, inr}
use Rattle.std.proofs.lemmas.Bool.Decides.{eqb_tells}
use Rattle.amo_packet.specs.declared.packet.OwnedBody.{OwnedBody}
use Rattle.amo_packet.specs.declared.packet.OwnedBody.TheVariants as packet
use Rattle.amo_core.specs.declared.act.Act.{Act}
use Rattle.amo_core.specs.declared.act.Act.TheVariants as act
use Rattle.amo_core.specs.declared.reply.Reply.{Reply}
use Rattle.amo_core.specs.declared.reply.Reply.TheVariants as reply
use Rattle.amo_core.specs.declared.payload.Payload.{Payload}
use Rattle.amo_core.specs.declared.payload.Payload.TheVariants as payload
use Rattle.amo_core.specs.Row.{Row, silent}
use Rattle.amo_core.specs.Sender as sender
use Rattle.amo_core.specs.declared.sender.SenderMode.{SenderMode}
use Rattle.amo_core.specs.declared.sender.SenderMode.TheVariants as sending
use Rattle.amo_outcomes.specs.Puts.{Puts, called, sender_moved}

-- one put more waits
abbrev pub with_put : Puts → Puts
with_put p = record p { count = p.count + 1; waiting = p.waiting ++ p.count ∷ [] }

-- the first ones are carried
abbrev pub with_carried : ℕ → Puts → Puts
with_carried many p = record p { waiting = drop many p.waiting; carried = take many p.waiting }

-- what is carried is sent under an identifier
abbrev pub with_sent : ℕ → Puts → Puts
with_sent id p = record p { sent = record { id = id; puts = p.carried } ∷ p.sent }

-- nothing waits
abbrev pub with_none : Puts → Puts
with_none p = record p { waiting = [] }

-- this holds of a sender's mode, what waits and the puts before an act, the act and its reply, and all these after it
abbrev pub OfRows : Type 1
OfRows = SenderMode → List (List ℕ) → Puts → Act → Option Reply → SenderMode → List (List ℕ) → Puts → Type 0

-- it holds of each change that a row may make
pub record HoldOfChanges (Holds : OfRows) : Type 0 where
  pub stays : (mode : SenderMode) (waiting : List (List ℕ)) (p : Puts) (a : Act) (r : Option Reply) → sender.is_down mode ≡ false
      → called a r p ≡ p → Holds mode waiting p a r mode waiting p
  pub stays_down : (waiting : List (List ℕ)) (p : Puts) (a : Act) (r : Option Reply)
      → Holds sending.Down waiting p a r sending.Down waiting (with_none p)
  pub puts : (mode : SenderMode) (waiting : List (List ℕ)) (p : Puts) (m : List ℕ) → sender.is_down mode ≡ false
      → Holds mode waiting p (act.Put m) (Some reply.Ok) mode (waiting ++ m ∷ []) (with_put p)
  pub starts : (got : Bool) (m : List ℕ) (rest : List (List ℕ)) (word : ℕ) (p : Puts)
      → Holds (sending.Quiet got) (m ∷ rest) p (act.Start word) (Some reply.Done) (sending.NeedId word (payload.Message m)) rest
      (with_carried 1 p)
  pub starts_batch : (got : Bool) (m : List ℕ) (rest : List (List ℕ)) (word : ℕ) (p : Puts)
      → Holds (sending.Quiet got) (m ∷ rest) p (act.Batch word) (Some reply.Done)
      (sending.NeedId word (payload.Batch (record { first = m; rest = take 3 rest }))) (drop 3 rest)
      (with_carried (length (m ∷ take 3 rest)) p)
  pub sends : (asked jd id k word : ℕ) (load : Payload) (waiting : List (List ℕ)) (p : Puts) → asked ≡ jd
      → Holds (sending.NeedId asked load) waiting p (act.Deliver (record { stream = k; body = packet.Accept jd id }) word)
      (Some reply.Done) (sending.Send id load) waiting (with_sent id p)
  pub acked : (id under k word : ℕ) (load : Payload) (got : Bool) (waiting : List (List ℕ)) (p : Puts)
      → Holds (sending.Send under load) waiting p (act.Deliver (record { stream = k; body = packet.Ack id got }) word)
      (Some reply.Done) (sending.Quiet got) waiting p
  pub crashes : (mode : SenderMode) (waiting : List (List ℕ)) (p : Puts)
      → Holds mode waiting p act.Crash (Some reply.Done) sending.Down [] (with_none p)
  pub recovers : (waiting : List (List ℕ)) (p : Puts)
      → Holds sending.Down waiting p act.Recover (Some reply.Done) (sending.Quiet false) [] p

module _ (Holds : OfRows) (h : HoldOfChanges Holds) (n : ℕ) where
  abbrev state : SenderMode → List (List ℕ) → sender.SenderState
  state mode waiting = record { stream = n; mode = mode; waiting = waiting }

  -- of this row
  abbrev Of : SenderMode → List (List ℕ) → Puts → Act → Row sender.SenderState → Type 0
  Of mode waiting p a row =
      Holds mode waiting p a row.reply row.state.mode row.state.waiting (sender_moved mode row.state.mode (called a row.reply p))

  put_either : (full : Bool) (mode : SenderMode) (waiting : List (List ℕ)) (m : List ℕ) (p : Puts) → sender.is_down mode ≡ false
      → ((q : Puts) → sender_moved mode mode q ≡ q)
      → Of mode waiting p (act.Put m) (if full then silent (state mode waiting) reply.Full else silent (state mode
      (waiting ++ m ∷ [])) reply.Ok)
  put_either true mode waiting m p up same = rw (same p) (h.stays mode waiting p (act.Put m) _ up refl)
  put_either false mode waiting m p up same = rw (same (with_put p)) (h.puts mode waiting p m up)

  of_put : (mode : SenderMode) (waiting : List (List ℕ)) (m : List ℕ) (p : Puts)
      → Of mode waiting p (act.Put m) (sender.put (state mode waiting) mode m)
  of_put (sending.Quiet got) waiting m p = put_either (eqb (length waiting) 16) (sending.Quiet got) waiting m p refl (λ q. refl)
  of_put (sending.NeedId jd load) waiting m p = put_either (eqb (length waiting) 16) (sending.NeedId jd load) waiting m p refl (λ q. refl)
  of_put (sending.Send id load) waiting m p = put_either (eqb (length waiting) 16) (sending.Send id load) waiting m p refl (λ q. refl)
  of_put sending.Down waiting m p = h.stays_down waiting p (act.Put m) _

  -- a row that changes nothing, of an act that is no call that is answered
  of_nothing : (mode : SenderMode) (waiting : List (List ℕ)) (p : Puts) (a : Act) (r : Option Reply) → called a r p ≡ p
      → Holds mode waiting p a r mode waiting (sender_moved mode mode p)
  of_nothing (sending.Quiet got) waiting p a r same = h.stays (sending.Quiet got) waiting p a r refl same
  of_nothing (sending.NeedId jd load) waiting p a r same = h.stays (sending.NeedId jd load) waiting p a r refl same
  of_nothing (sending.Send id load) waiting p a r same = h.stays (sending.Send id load) waiting p a r refl same
  of_nothing sending.Down waiting p a r same = h.stays_down waiting p a r

  of_ack_call : (mode : SenderMode) (waiting : List (List ℕ)) (p : Puts)
      → Of mode waiting p act.Ack (sender.get_ack (state mode waiting) mode waiting)
  of_ack_call (sending.Quiet true) [] p = h.stays _ _ p _ _ refl refl
  of_ack_call (sending.Quiet true) (m ∷ waiting) p = h.stays _ _ p _ _ refl refl
  of_ack_call (sending.Quiet false) [] p = h.stays _ _ p _ _ refl refl
  of_ack_call (sending.Quiet false) (m ∷ waiting) p = h.stays _ _ p _ _ refl refl
  of_ack_call (sending.NeedId jd load) waiting p = h.stays _ _ p _ _ refl refl
  of_ack_call (sending.Send id load) waiting p = h.stays _ _ p _ _ refl refl
  of_ack_call sending.Down waiting p = h.stays_down waiting p _ _

  of_start : (mode : SenderMode) (waiting : List (List ℕ)) (word : ℕ) (p : Puts)
      → Of mode waiting p (act.Start word) (sender.start (state mode waiting) mode waiting word)
  of_start (sending.Quiet got) [] word p = h.stays _ _ p _ _ refl refl
  of_start (sending.Quiet got) (m ∷ waiting) word p = h.starts got m waiting word p
  of_start (sending.NeedId jd load) waiting word p = h.stays _ _ p _ _ refl refl
  of_start (sending.Send id load) waiting word p = h.stays _ _ p _ _ refl refl
  of_start sending.Down waiting word p = h.stays_down waiting p _ _

  of_batch : (mode : SenderMode) (waiting : List (List ℕ)) (word : ℕ) (p : Puts)
      → Of mode waiting p (act.Batch word) (sender.start_batch (state mode waiting) mode waiting word)
  of_batch (sending.Quiet got) [] word p = h.stays _ _ p _ _ refl refl
  of_batch (sending.Quiet got) (m ∷ waiting) word p = h.starts_batch got m waiting word p
  of_batch (sending.NeedId jd load) waiting word p = h.stays _ _ p _ _ refl refl
  of_batch (sending.Send id load) waiting word p = h.stays _ _ p _ _ refl refl
  of_batch sending.Down waiting word p = h.stays_down waiting p _ _

  of_resend : (mode : SenderMode) (waiting : List (List ℕ)) (p : Puts)
      → Of mode waiting p act.Resend (sender.resend (state mode waiting) mode)
  of_resend (sending.Quiet got) waiting p = h.stays _ _ p _ _ refl refl
  of_resend (sending.NeedId jd load) waiting p = h.stays _ _ p _ _ refl refl
  of_resend (sending.Send id load) waiting p = h.stays _ _ p _ _ refl refl
  of_resend sending.Down waiting p = h.stays_down waiting p _ _

  of_accept : (mode : SenderMode) (waiting : List (List ℕ)) (jd id word k : ℕ) (p : Puts)
      → Of mode waiting p (act.Deliver (record { stream = k; body = packet.Accept jd id }) word)
      (sender.accept (state mode waiting) mode jd id)
  of_accept (sending.Quiet got) waiting jd id word k p = h.stays _ _ p _ _ refl refl
  of_accept (sending.NeedId asked load) waiting jd id word k p = elim (eqb_tells asked jd) [
    | inl e ↦ rw e.0 (h.sends asked jd id k word load waiting p e.1)
    | inr e ↦ rw e.0 (h.stays (sending.NeedId asked load) waiting p _ _ refl refl)
  ]
  of_accept (sending.Send under load) waiting jd id word k p = elim (eqb_tells under id) [
    | inl e ↦ rw e.0 (h.stays (sending.Send under load) waiting p _ _ refl refl)
    | inr e ↦ rw e.0 (h.stays (sending.Send under load) waiting p _ _ refl refl)
  ]
  of_accept sending.Down waiting jd id word k p = h.stays_down waiting p _ _

  of_ack : (mode : SenderMode) (waiting : List (List ℕ)) (id : ℕ) (got : Bool) (word k : ℕ) (p : Puts)
      → Of mode waiting p (act.Deliver (record { stream = k; body = packet.Ack id got }) word)
      (sender.ack (state mode waiting) mode id got)
  of_ack (sending.Quiet was) waiting id true word k p = h.stays _ _ p _ _ refl refl
  of_ack (sending.Quiet was) waiting id false word k p = h.stays _ _ p _ _ refl refl
  of_ack (sending.NeedId jd load) waiting id true word k p = h.stays _ _ p _ _ refl refl
  of_ack (sending.NeedId jd load) waiting id false word k p = h.stays _ _ p _ _ refl refl
  of_ack (sending.Send under load) waiting id true word k p = elim (eqb_tells under id) [
    | inl e ↦ rw e.0 (h.acked id under k word load true waiting p)
    | inr e ↦ rw e.0 (h.stays (sending.Send under load) waiting p _ _ refl refl)
  ]
  of_ack (sending.Send under load) waiting id false word k p = elim (eqb_tells under id) [
    | inl e ↦ rw e.0 (h.acked id under k word load false waiting p)
    | inr e ↦ rw e.0 (h.stays (sending.Send under load) waiting p _ _ refl refl)
  ]
  of_ack sending.Down waiting id got word k p = h.stays_down waiting p _ _

  of_delivery : (mode : SenderMode) (waiting : List (List ℕ)) (body : OwnedBody) (word k : ℕ) (p : Puts)
      → Of mode waiting p (act.Deliver (record { stream = k; body = body }) word) (sender.deliver (state mode waiting) body)
  of_delivery mode waiting (packet.NeedUid jd) word k p = of_nothing mode waiting p _ _ refl
  of_delivery mode waiting (packet.Accept jd id) word k p = of_accept mode waiting jd id word k p
  of_delivery mode waiting (packet.Send id m) word k p = of_nothing mode waiting p _ _ refl
  of_delivery mode waiting (packet.Ack id got) word k p = of_ack mode waiting id got word k p
  of_delivery mode waiting (packet.Cleanup id) word k p = of_nothing mode waiting p _ _ refl
  of_delivery mode waiting (packet.Batch id b) word k p = of_nothing mode waiting p _ _ refl

  of_crash : (mode : SenderMode) (waiting : List (List ℕ)) (p : Puts)
      → Holds mode waiting p act.Crash (Some reply.Done) sending.Down [] (sender_moved mode sending.Down p)
  of_crash (sending.Quiet got) waiting p = h.crashes _ waiting p
  of_crash (sending.NeedId jd load) waiting p = h.crashes _ waiting p
  of_crash (sending.Send id load) waiting p = h.crashes _ waiting p
  of_crash sending.Down waiting p = h.crashes _ waiting p

  of_recovery : (mode : SenderMode) (waiting : List (List ℕ)) (p : Puts)
      → Of mode waiting p act.Recover (sender.recover (state mode waiting) mode)
  of_recovery (sending.Quiet got) waiting p = h.stays _ _ p _ _ refl refl
  of_recovery (sending.NeedId jd load) waiting p = h.stays _ _ p _ _ refl refl
  of_recovery (sending.Send id load) waiting p = h.stays _ _ p _ _ refl refl
  of_recovery sending.Down waiting p = h.recovers waiting p

  -- it holds of each row of the sender's table
  pub by_rows : (mode : SenderMode) (waiting : List (List ℕ)) (p : Puts) (a : Act)
      → Of mode waiting p a (sender.row (state mode waiting) a)
  by_rows mode waiting p (act.Put m) = of_put mode waiting m p
  by_rows mode waiting p act.Get = of_nothing mode waiting p act.Get _ refl
  by_rows mode waiting p act.Ack = of_ack_call mode waiting p
  by_rows mode waiting p (act.Start word) = of_start mode waiting word p
  by_rows mode waiting p (act.Batch word) = of_batch mode waiting word p
  by_rows mode waiting p act.Resend = of_resend mode waiting p
  by_rows mode waiting p (act.Deliver b word) = of_delivery mode waiting b.body word b.stream p
  by_rows mode waiting p act.Crash = of_crash mode waiting p
  by_rows mode waiting p act.Recover = of_recovery mode waiting p
