-- Each act has a reply at its side.
use Rattle.std.proofs.Common.{ℕ, Bool, true, false, eqb, if◌then◌else◌, List, [], ◌∷◌, length, refl}
use Rattle.std.specs.Prelude.{IsSome}
use Rattle.amo_object.specs.declared.step.End.TheVariants.{Sender, Receiver}
use Rattle.amo_core.specs.declared.act.Act.TheVariants as act
use Rattle.amo_core.specs.declared.reply.Reply.TheVariants as reply
use Rattle.amo_core.specs.declared.sender.SenderMode.{SenderMode}
use Rattle.amo_core.specs.declared.sender.SenderMode.TheVariants as sending
use Rattle.amo_core.specs.declared.receiver.ReceiverMode.{ReceiverMode}
use Rattle.amo_core.specs.declared.receiver.ReceiverMode.TheVariants as receiving
use Rattle.amo_core.specs.Row.{silent}
use Rattle.amo_core.specs.Sender as sender
use Rattle.amo_core.specs.Receiver as receiver
use Rattle.amo_world.specs.Stream.{Stream, reply_of}

-- a full sender replies, and so does one that has room
full_or_not : (full : Bool) (s t : sender.SenderState) → IsSome (if full then silent s reply.Full else silent t reply.Ok).reply
full_or_not true s t = refl
full_or_not false s t = refl

put_replies : (s : sender.SenderState) (mode : SenderMode) (m : List ℕ) → IsSome (sender.put s mode m).reply
put_replies s sending.Down m = refl
put_replies s (sending.Quiet got) m = full_or_not (eqb (length s.waiting) 16) s _
put_replies s (sending.NeedId jd c) m = full_or_not (eqb (length s.waiting) 16) s _
put_replies s (sending.Send id c) m = full_or_not (eqb (length s.waiting) 16) s _

ack_replies : (s : sender.SenderState) (mode : SenderMode) (waiting : List (List ℕ)) → IsSome (sender.get_ack s mode waiting).reply
ack_replies s sending.Down waiting = refl
ack_replies s (sending.Quiet true) [] = refl
ack_replies s (sending.Quiet false) [] = refl
ack_replies s (sending.Quiet true) (m ∷ waiting) = refl
ack_replies s (sending.Quiet false) (m ∷ waiting) = refl
ack_replies s (sending.NeedId jd c) waiting = refl
ack_replies s (sending.Send id c) waiting = refl

get_replies : (s : receiver.ReceiverState) (mode : ReceiverMode) → IsSome (receiver.get s mode).reply
get_replies s receiving.Idle = refl
get_replies s (receiving.Accept jd id) = refl
get_replies s (receiving.Rcvd id m) = refl
get_replies s (receiving.Ack id) = refl
get_replies s receiving.Down = refl

-- of a stream's clients
pub put_has_reply : (s : Stream) (m : List ℕ) → IsSome (reply_of s Sender (act.Put m))
put_has_reply s m = put_replies s.sender.state s.sender.state.mode m

pub ack_has_reply : (s : Stream) → IsSome (reply_of s Sender act.Ack)
ack_has_reply s = ack_replies s.sender.state s.sender.state.mode s.sender.state.waiting

pub get_has_reply : (s : Stream) → IsSome (reply_of s Receiver act.Get)
get_has_reply s = get_replies s.receiver.state s.receiver.state.mode
