-- What a side holds changes by few acts alone.
use Rattle.std.proofs.Common.{◌≡◌, ℕ, Bool, true, false, eqb, if◌then◌else◌, List, [], ◌∷◌, ◌++◌, length, refl, ap}
use Rattle.amo_packet.specs.declared.packet.OwnedBody.{OwnedBody}
use Rattle.amo_packet.specs.declared.packet.OwnedBody.TheVariants as packet
use Rattle.amo_packet.specs.Batch.{Batch, alone}
use Rattle.amo_core.specs.declared.act.Act.{Act}
use Rattle.amo_core.specs.declared.act.Act.TheVariants as act
use Rattle.amo_core.specs.declared.reply.Reply.TheVariants as reply
use Rattle.amo_core.specs.declared.sender.SenderMode.{SenderMode}
use Rattle.amo_core.specs.declared.sender.SenderMode.TheVariants as sending
use Rattle.amo_core.specs.declared.receiver.ReceiverMode.{ReceiverMode}
use Rattle.amo_core.specs.declared.receiver.ReceiverMode.TheVariants as receiving
use Rattle.amo_core.specs.Row.{Row, silent}
use Rattle.amo_core.specs.Sender as sender
use Rattle.amo_core.specs.Receiver as receiver
use Rattle.amo_world.specs.Held.{MayChangeSender, IsAckForSender, MayChangeReceiver, IsSendForReceiver}

-- one of two rows has what both have, and the second has it where the first is not it
module _ {S : Type 0} (Has : Row S → Type 0) where
  either : (b : Bool) (r q : Row S) → Has r → Has q → Has (if b then r else q)
  either true r q x y = x
  either false r q x y = y

  second : (b : Bool) (r q : Row S) → (¬ (b ≡ true)) → Has q → Has (if b then r else q)
  second true r q other y = absurd (other refl)
  second false r q other y = y

-- after this row a sender holds these messages
abbrev SenderHolds : List (List ℕ) → Row sender.SenderState → Type 0
SenderHolds held r = sender.held_by r.state.mode ≡ held

-- of a sender in this mode
module _ (s : sender.SenderState) where
  cleaned : (id : ℕ) (got : Bool) → SenderHolds (sender.held_by s.mode) (sender.cleaning_up s id got)
  cleaned id true = refl
  cleaned id false = refl

  room : (m : List ℕ) → SenderHolds (sender.held_by s.mode) (if eqb (length s.waiting) 16 then silent s reply.Full else silent (record s { waiting = s.waiting ++ m ∷ [] }) reply.Ok)
  room m = either (SenderHolds (sender.held_by s.mode)) (eqb (length s.waiting) 16) _ _ refl refl

  put : (mode : SenderMode) (m : List ℕ) → SenderHolds (sender.held_by s.mode) (sender.put s mode m)
  put sending.Down m = refl
  put (sending.Quiet got) m = room m
  put (sending.NeedId jd c) m = room m
  put (sending.Send id c) m = room m

  get_ack : (mode : SenderMode) (waiting : List (List ℕ)) → SenderHolds (sender.held_by s.mode) (sender.get_ack s mode waiting)
  get_ack sending.Down waiting = refl
  get_ack (sending.Quiet true) [] = refl
  get_ack (sending.Quiet false) [] = refl
  get_ack (sending.Quiet true) (m ∷ waiting) = refl
  get_ack (sending.Quiet false) (m ∷ waiting) = refl
  get_ack (sending.NeedId jd c) waiting = refl
  get_ack (sending.Send id c) waiting = refl

  resend : (mode : SenderMode) → SenderHolds (sender.held_by s.mode) (sender.resend s mode)
  resend sending.Down = refl
  resend (sending.Quiet got) = refl
  resend (sending.NeedId jd c) = refl
  resend (sending.Send id c) = refl

  recover : (mode : SenderMode) → s.mode ≡ mode → SenderHolds (sender.held_by mode) (sender.recover s mode)
  recover sending.Down is = refl
  recover (sending.Quiet got) is = ap sender.held_by is
  recover (sending.NeedId jd c) is = ap sender.held_by is
  recover (sending.Send id c) is = ap sender.held_by is

  accept : (mode : SenderMode) (jd id : ℕ) → s.mode ≡ mode → SenderHolds (sender.held_by mode) (sender.accept s mode jd id)
  accept sending.Down jd id is = ap sender.held_by is
  accept (sending.Quiet got) jd id is = ap sender.held_by is
  accept (sending.NeedId asked c) jd id is = either (SenderHolds (sender.messages_in c)) (eqb asked jd) _ _ refl (ap sender.held_by is)
  accept (sending.Send under c) jd id is = either (SenderHolds (sender.messages_in c)) (eqb under id) _ _ (ap sender.held_by is) (ap sender.held_by is)

  ack : (mode : SenderMode) (id : ℕ) (got : Bool) → (¬ (sender.is_sending mode id ≡ true)) → SenderHolds (sender.held_by s.mode) (sender.ack s mode id got)
  ack sending.Down id got other = refl
  ack (sending.Quiet g) id got other = cleaned id got
  ack (sending.NeedId jd c) id got other = cleaned id got
  ack (sending.Send under c) id got other = second (SenderHolds (sender.held_by s.mode)) (eqb under id) _ _ other (cleaned id got)

  deliver : (body : OwnedBody) → (¬ (IsAckForSender s.mode body)) → SenderHolds (sender.held_by s.mode) (sender.deliver s body)
  deliver (packet.NeedUid jd) other = refl
  deliver (packet.Accept jd id) other = accept s.mode jd id refl
  deliver (packet.Send id m) other = refl
  deliver (packet.Ack id got) other = ack s.mode id got other
  deliver (packet.Cleanup id) other = refl
  deliver (packet.Batch id b) other = refl

pub sender_holds : (s : sender.SenderState) (a : Act) → (¬ (MayChangeSender s.mode a)) → SenderHolds (sender.held_by s.mode) (sender.row s a)
sender_holds s (act.Put m) other = put s s.mode m
sender_holds s act.Get other = refl
sender_holds s act.Ack other = get_ack s s.mode s.waiting
sender_holds s (act.Start word) other = absurd (other tt)
sender_holds s (act.Batch word) other = absurd (other tt)
sender_holds s act.Resend other = resend s s.mode
sender_holds s (act.Deliver p word) other = deliver s p.body other
sender_holds s act.Crash other = absurd (other tt)
sender_holds s act.Recover other = recover s s.mode refl

-- after this row a receiver holds these messages
abbrev ReceiverHolds : List (List ℕ) → Row receiver.ReceiverState → Type 0
ReceiverHolds held r = receiver.held_by r.state.mode ≡ held

-- of a receiver in this mode
module _ (s : receiver.ReceiverState) where
  needuid : (mode : ReceiverMode) (jd word : ℕ) → s.mode ≡ mode → ReceiverHolds (receiver.held_by mode) (receiver.needuid s mode jd word)
  needuid receiving.Idle jd word is = refl
  needuid (receiving.Accept asked id) jd word is = either (ReceiverHolds []) (eqb asked jd) _ _ (ap receiver.held_by is) (ap receiver.held_by is)
  needuid (receiving.Rcvd id m) jd word is = ap receiver.held_by is
  needuid (receiving.Ack id) jd word is = ap receiver.held_by is
  needuid receiving.Down jd word is = ap receiver.held_by is

  batch : (mode : ReceiverMode) (id : ℕ) (m : Batch) → (¬ (receiver.is_accepting mode id ≡ true)) → ReceiverHolds (receiver.held_by s.mode) (receiver.batch s mode id m)
  batch receiving.Idle id m other = refl
  batch (receiving.Accept jd accepted) id m other = second (ReceiverHolds (receiver.held_by s.mode)) (eqb accepted id) _ _ other refl
  batch (receiving.Rcvd under held) id m other = either (ReceiverHolds (receiver.held_by s.mode)) (eqb under id) _ _ refl refl
  batch (receiving.Ack under) id m other = refl
  batch receiving.Down id m other = refl

  ended : (b : Bool) → receiver.held_by s.mode ≡ [] → ReceiverHolds [] (receiver.quietly (if b then record s { mode = receiving.Idle } else s))
  ended true none = refl
  ended false none = none

  cleanup : (mode : ReceiverMode) (id : ℕ) → s.mode ≡ mode → ReceiverHolds (receiver.held_by mode) (receiver.cleanup s mode id)
  cleanup receiving.Idle id is = ap receiver.held_by is
  cleanup (receiving.Accept jd accepted) id is = ended (eqb accepted id) (ap receiver.held_by is)
  cleanup (receiving.Rcvd under held) id is = ap receiver.held_by is
  cleanup (receiving.Ack under) id is = ended (eqb under id) (ap receiver.held_by is)
  cleanup receiving.Down id is = ap receiver.held_by is

  receive : (body : OwnedBody) (word : ℕ) → (¬ (IsSendForReceiver s.mode body)) → ReceiverHolds (receiver.held_by s.mode) (receiver.deliver s body word)
  receive (packet.NeedUid jd) word other = needuid s.mode jd word refl
  receive (packet.Accept jd id) word other = refl
  receive (packet.Send id m) word other = batch s.mode id (alone m) other
  receive (packet.Batch id b) word other = batch s.mode id b other
  receive (packet.Ack id got) word other = refl
  receive (packet.Cleanup id) word other = cleanup s.mode id refl

  emit : (mode : ReceiverMode) → ReceiverHolds (receiver.held_by s.mode) (receiver.resend s mode)
  emit receiving.Idle = refl
  emit (receiving.Accept jd id) = refl
  emit (receiving.Rcvd id m) = refl
  emit (receiving.Ack id) = refl
  emit receiving.Down = refl

  rise : (mode : ReceiverMode) → s.mode ≡ mode → ReceiverHolds (receiver.held_by mode) (receiver.recover s mode)
  rise receiving.Idle is = ap receiver.held_by is
  rise (receiving.Accept jd id) is = ap receiver.held_by is
  rise (receiving.Rcvd id m) is = ap receiver.held_by is
  rise (receiving.Ack id) is = ap receiver.held_by is
  rise receiving.Down is = refl

pub receiver_holds : (s : receiver.ReceiverState) (a : Act) → (¬ (MayChangeReceiver s.mode a)) → ReceiverHolds (receiver.held_by s.mode) (receiver.row s a)
receiver_holds s (act.Put m) other = refl
receiver_holds s act.Get other = absurd (other tt)
receiver_holds s act.Ack other = refl
receiver_holds s (act.Start word) other = refl
receiver_holds s (act.Batch word) other = refl
receiver_holds s act.Resend other = emit s s.mode
receiver_holds s (act.Deliver p word) other = receive s p.body word other
receiver_holds s act.Crash other = absurd (other tt)
receiver_holds s act.Recover other = rise s s.mode refl
