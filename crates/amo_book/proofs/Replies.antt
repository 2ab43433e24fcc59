-- Which acts a side has, and what their rows reply.
use Rattle.std.proofs.Common.{◌≡◌, ℕ, Bool, true, false, eqb, List, [], ◌∷◌, ◌⊎◌, inl, inr, length, Option, Some, None, if◌then◌else◌, refl, sym, ap, ◌∙◌, subst}
use Rattle.std.proofs.lemmas.Option.{same_Some}
use Rattle.amo_object.specs.declared.step.End.{End}
use Rattle.amo_object.specs.declared.step.End.TheVariants as side
use Rattle.amo_packet.specs.declared.packet.OwnedPacket.{OwnedPacket}
use Rattle.amo_core.specs.declared.act.Act.{Act}
use Rattle.amo_core.specs.declared.act.Act.TheVariants as act
use Rattle.amo_core.specs.declared.reply.Reply.{Reply}
use Rattle.amo_core.specs.declared.reply.Reply.TheVariants as reply
use Rattle.amo_core.specs.declared.automaton.Automaton.{Automaton}
use Rattle.amo_core.specs.declared.sender.SenderMode.{SenderMode}
use Rattle.amo_core.specs.declared.sender.SenderMode.TheVariants as sending
use Rattle.amo_core.specs.declared.receiver.ReceiverMode.{ReceiverMode}
use Rattle.amo_core.specs.declared.receiver.ReceiverMode.TheVariants as receiving
use Rattle.amo_core.specs.Row.{silent}
use Rattle.amo_core.specs.Sender as sender
use Rattle.amo_core.specs.Receiver as receiver
use Rattle.amo_core.specs.Automaton.{row, handed_back}
use Rattle.amo_world.specs.Stream.{Stream, reply_of, emission_of}
use Rattle.amo_world.specs.History.{stream_after}
use Rattle.amo_world.proofs.Emitted.{start_is_done, batch_is_done, resend_is_done, deliver_is_done, crash_is_done, recover_is_done}
use Rattle.amo_book.specs.Steps.{IsStateOf}
use Rattle.amo_book.specs.Calls.{IsPutReply, IsGetReply, IsAckReply}
use Rattle.amo_book.specs.Charge.{ChargeState}
use Rattle.amo_book.specs.Drive.{Suits}
use Rattle.amo_book.proofs.Histories.{reply-row}

-- what is true of the reply in every stream is true of it at every state of the side
pub of_state : (P : Option Reply → Type 0) (at : End) (stream : ℕ) (a : Act) → ((s : Stream) → P (reply_of s at a))
    → (x : Automaton) → IsStateOf at stream x → P (row x a).reply
of_state P at stream a all x (log, is) =
    subst P (sym (ap (λ (y : Automaton). (row y a).reply) is ∙ reply-row (stream_after stream log) at a)) (all (stream_after stream log))

-- a put is replied Ok, Full or Down
abbrev pub HasPutReply : Option Reply → Type 0
HasPutReply r = (r ≡ Some reply.Ok) ⊎ ((r ≡ Some reply.Full) ⊎ (r ≡ Some reply.Down))

put_either : (full : Bool) (s t : sender.SenderState) → HasPutReply (if full then silent s reply.Full else silent t reply.Ok).reply
put_either true s t = inr (inl refl)
put_either false s t = inl refl

put_one : (s : sender.SenderState) (mode : SenderMode) (m : List ℕ) → HasPutReply (sender.put s mode m).reply
put_one s sending.Down m = inr (inr refl)
put_one s (sending.Quiet got) m = put_either (eqb (length s.waiting) 16) s _
put_one s (sending.NeedId jd c) m = put_either (eqb (length s.waiting) 16) s _
put_one s (sending.Send id c) m = put_either (eqb (length s.waiting) 16) s _

pub put_replies : (stream : ℕ) (m : List ℕ) (x : Automaton) → IsStateOf side.Sender stream x → HasPutReply (row x (act.Put m)).reply
put_replies stream m = of_state HasPutReply side.Sender stream (act.Put m) (λ s. put_one s.sender.state s.sender.state.mode m)

-- a get_ack is replied Yes, No, NotYet or Down
abbrev pub HasAckReply : Option Reply → Type 0
HasAckReply r = (r ≡ Some reply.Yes) ⊎ ((r ≡ Some reply.No) ⊎ ((r ≡ Some reply.NotYet) ⊎ (r ≡ Some reply.Down)))

ack_one : (s : sender.SenderState) (mode : SenderMode) (w : List (List ℕ)) → HasAckReply (sender.get_ack s mode w).reply
ack_one s sending.Down w = inr (inr (inr refl))
ack_one s (sending.Quiet true) [] = inl refl
ack_one s (sending.Quiet false) [] = inr (inl refl)
ack_one s (sending.Quiet true) (m ∷ w) = inr (inr (inl refl))
ack_one s (sending.Quiet false) (m ∷ w) = inr (inr (inl refl))
ack_one s (sending.NeedId jd c) w = inr (inr (inl refl))
ack_one s (sending.Send id c) w = inr (inr (inl refl))

pub ack_replies : (stream : ℕ) (x : Automaton) → IsStateOf side.Sender stream x → HasAckReply (row x act.Ack).reply
ack_replies stream = of_state HasAckReply side.Sender stream act.Ack (λ s. ack_one s.sender.state s.sender.state.mode s.sender.state.waiting)

-- a get is replied a message, Nothing or Down
abbrev pub HasGetReply : Option Reply → Type 0
HasGetReply r = ((m : List ℕ) × (r ≡ Some (reply.Got m))) ⊎ ((r ≡ Some reply.Nothing) ⊎ (r ≡ Some reply.Down))

get_one : (s : receiver.ReceiverState) (mode : ReceiverMode) → HasGetReply (receiver.get s mode).reply
get_one s receiving.Idle = inr (inl refl)
get_one s (receiving.Accept jd id) = inr (inl refl)
get_one s (receiving.Rcvd id b) = inl (b.first, refl)
get_one s (receiving.Ack id) = inr (inl refl)
get_one s receiving.Down = inr (inr refl)

pub get_replies : (stream : ℕ) (x : Automaton) → IsStateOf side.Receiver stream x → HasGetReply (row x act.Get).reply
get_replies stream = of_state HasGetReply side.Receiver stream act.Get (λ s. get_one s.receiver.state s.receiver.state.mode)

-- each has a reply
pub put_known : (stream : ℕ) (m : List ℕ) (x : Automaton) → IsStateOf side.Sender stream x → (told : Reply) × ((row x (act.Put m)).reply ≡ Some told)
put_known stream m x is = has (put_replies stream m x is)
  where
    has : HasPutReply (row x (act.Put m)).reply → (told : Reply) × ((row x (act.Put m)).reply ≡ Some told)
    has (inl e) = (reply.Ok, e)
    has (inr (inl e)) = (reply.Full, e)
    has (inr (inr e)) = (reply.Down, e)

pub ack_known : (stream : ℕ) (x : Automaton) → IsStateOf side.Sender stream x → (told : Reply) × ((row x act.Ack).reply ≡ Some told)
ack_known stream x is = has (ack_replies stream x is)
  where
    has : HasAckReply (row x act.Ack).reply → (told : Reply) × ((row x act.Ack).reply ≡ Some told)
    has (inl e) = (reply.Yes, e)
    has (inr (inl e)) = (reply.No, e)
    has (inr (inr (inl e))) = (reply.NotYet, e)
    has (inr (inr (inr e))) = (reply.Down, e)

pub get_known : (stream : ℕ) (x : Automaton) → IsStateOf side.Receiver stream x → (told : Reply) × ((row x act.Get).reply ≡ Some told)
get_known stream x is = has (get_replies stream x is)
  where
    has : HasGetReply (row x act.Get).reply → (told : Reply) × ((row x act.Get).reply ≡ Some told)
    has (inl (m, e)) = (reply.Got m, e)
    has (inr (inl e)) = (reply.Nothing, e)
    has (inr (inr e)) = (reply.Down, e)

-- a reply that is the row's is one that the call can answer
pub put_fits : (stream : ℕ) (m : List ℕ) (x : Automaton) (r : Reply) (back : Option (List ℕ)) → IsStateOf side.Sender stream x
    → (row x (act.Put m)).reply ≡ Some r → back ≡ handed_back (act.Put m) (Some r) → IsPutReply r back
put_fits stream m x r back is told gives = subst (IsPutReply r) (sym gives) (fits (put_replies stream m x is))
  where
    fits : HasPutReply (row x (act.Put m)).reply → IsPutReply r (handed_back (act.Put m) (Some r))
    fits (inl e) = let same : reply.Ok ≡ r = same_Some _ _ (sym e ∙ told) in subst (λ t. IsPutReply t (handed_back (act.Put m) (Some t))) same tt
    fits (inr (inl e)) = let same : reply.Full ≡ r = same_Some _ _ (sym e ∙ told) in subst (λ t. IsPutReply t (handed_back (act.Put m) (Some t))) same tt
    fits (inr (inr e)) = let same : reply.Down ≡ r = same_Some _ _ (sym e ∙ told) in subst (λ t. IsPutReply t (handed_back (act.Put m) (Some t))) same tt

pub ack_fits : (stream : ℕ) (x : Automaton) (r : Reply) → IsStateOf side.Sender stream x → (row x act.Ack).reply ≡ Some r → IsAckReply r
ack_fits stream x r is told = fits (ack_replies stream x is)
  where
    fits : HasAckReply (row x act.Ack).reply → IsAckReply r
    fits (inl e) = let same : reply.Yes ≡ r = same_Some _ _ (sym e ∙ told) in subst IsAckReply same tt
    fits (inr (inl e)) = let same : reply.No ≡ r = same_Some _ _ (sym e ∙ told) in subst IsAckReply same tt
    fits (inr (inr (inl e))) = let same : reply.NotYet ≡ r = same_Some _ _ (sym e ∙ told) in subst IsAckReply same tt
    fits (inr (inr (inr e))) = let same : reply.Down ≡ r = same_Some _ _ (sym e ∙ told) in subst IsAckReply same tt

pub get_fits : (stream : ℕ) (x : Automaton) (r : Reply) → IsStateOf side.Receiver stream x → (row x act.Get).reply ≡ Some r → IsGetReply r
get_fits stream x r is told = fits (get_replies stream x is)
  where
    fits : HasGetReply (row x act.Get).reply → IsGetReply r
    fits (inl (m, e)) = let same : reply.Got m ≡ r = same_Some _ _ (sym e ∙ told) in subst IsGetReply same tt
    fits (inr (inl e)) = let same : reply.Nothing ≡ r = same_Some _ _ (sym e ∙ told) in subst IsGetReply same tt
    fits (inr (inr e)) = let same : reply.Down ≡ r = same_Some _ _ (sym e ∙ told) in subst IsGetReply same tt

-- what comes back of a put is its message
pub put_back_is : (m back : List ℕ) (told : Option Reply) → Some back ≡ handed_back (act.Put m) told → back ≡ m
put_back_is m back None e = same_Some _ _ e
put_back_is m back (Some reply.Ok) e = cc
put_back_is m back (Some reply.Full) e = same_Some _ _ e
put_back_is m back (Some reply.Down) e = same_Some _ _ e
put_back_is m back (Some (reply.Got other)) e = same_Some _ _ e
put_back_is m back (Some reply.Nothing) e = same_Some _ _ e
put_back_is m back (Some reply.Yes) e = same_Some _ _ e
put_back_is m back (Some reply.No) e = same_Some _ _ e
put_back_is m back (Some reply.NotYet) e = same_Some _ _ e
put_back_is m back (Some reply.Done) e = same_Some _ _ e

-- what the hosts do is replied Done
pub done_known : (at : End) (stream : ℕ) (a : Act) → ((s : Stream) → reply_of s at a ≡ Some reply.Done)
    → (x : Automaton) → IsStateOf at stream x → (row x a).reply ≡ Some reply.Done
done_known at stream a all = of_state (λ r. r ≡ Some reply.Done) at stream a all

pub start_known : (at : End) (stream word : ℕ) → at ≡ side.Sender → (x : Automaton) → IsStateOf at stream x → (row x (act.Start word)).reply ≡ Some reply.Done
start_known at stream word is = done_known at stream (act.Start word)
    (λ s. subst (λ (t : End). reply_of s t (act.Start word) ≡ Some reply.Done) (sym is) (start_is_done s word))

pub batch_known : (at : End) (stream word : ℕ) → at ≡ side.Sender → (x : Automaton) → IsStateOf at stream x → (row x (act.Batch word)).reply ≡ Some reply.Done
batch_known at stream word is = done_known at stream (act.Batch word)
    (λ s. subst (λ (t : End). reply_of s t (act.Batch word) ≡ Some reply.Done) (sym is) (batch_is_done s word))

pub resend_known : (at : End) (stream : ℕ) (x : Automaton) → IsStateOf at stream x → (row x act.Resend).reply ≡ Some reply.Done
resend_known at stream = done_known at stream act.Resend (λ s. resend_is_done s at)

pub deliver_known : (at : End) (stream : ℕ) (p : OwnedPacket) (word : ℕ) (x : Automaton) → IsStateOf at stream x
    → (row x (act.Deliver p word)).reply ≡ Some reply.Done
deliver_known at stream p word = done_known at stream (act.Deliver p word) (λ s. deliver_is_done s at p word)

pub crash_known : (at : End) (stream : ℕ) (x : Automaton) → IsStateOf at stream x → (row x act.Crash).reply ≡ Some reply.Done
crash_known at stream = done_known at stream act.Crash (λ s. crash_is_done s at)

pub recover_known : (at : End) (stream : ℕ) (x : Automaton) → IsStateOf at stream x → (row x act.Recover).reply ≡ Some reply.Done
recover_known at stream = done_known at stream act.Recover (λ s. recover_is_done s at)

-- and so is each act of a host that suits a charge
pub suited_known : (c : ChargeState) (a : Act) → Suits c a → (x : Automaton) → IsStateOf c.side c.stream x → (row x a).reply ≡ Some reply.Done
suited_known c (act.Put m) never = absurd never
suited_known c act.Get never = absurd never
suited_known c act.Ack never = absurd never
suited_known c (act.Start word) is = start_known c.side c.stream word is
suited_known c (act.Batch word) is = batch_known c.side c.stream word is
suited_known c act.Resend suits = resend_known c.side c.stream
suited_known c (act.Deliver p word) suits = deliver_known c.side c.stream p word
suited_known c act.Crash suits = crash_known c.side c.stream
suited_known c act.Recover suits = recover_known c.side c.stream

-- a crash and a recovery emit nothing
pub crash_is_silent : (s : Stream) (at : End) → emission_of s at act.Crash ≡ None
crash_is_silent s side.Sender = refl
crash_is_silent s side.Receiver = refl

sender_recovers : (s : sender.SenderState) (mode : SenderMode) → (sender.recover s mode).emitted ≡ None
sender_recovers s (sending.Quiet got) = refl
sender_recovers s (sending.NeedId jd m) = refl
sender_recovers s (sending.Send id m) = refl
sender_recovers s sending.Down = refl

receiver_recovers : (s : receiver.ReceiverState) (mode : ReceiverMode) → (receiver.recover s mode).emitted ≡ None
receiver_recovers s receiving.Idle = refl
receiver_recovers s (receiving.Accept jd id) = refl
receiver_recovers s (receiving.Rcvd id m) = refl
receiver_recovers s (receiving.Ack id) = refl
receiver_recovers s receiving.Down = refl

pub recover_is_silent : (s : Stream) (at : End) → emission_of s at act.Recover ≡ None
recover_is_silent s side.Sender = sender_recovers s.sender.state s.sender.state.mode
recover_is_silent s side.Receiver = receiver_recovers s.receiver.state s.receiver.state.mode
