-- What the calls of clients reply, by the mode of their side.
use Rattle.std.proofs.Common.{◌≡◌, ℕ, Bool, true, false, if◌then◌else◌, Some, List, [], ◌∷◌, length, refl, ◌∙◌, ap}
use Rattle.std.specs.Prelude.{◌≢◌}
use Rattle.std.proofs.lemmas.Bool.{eq-eqb, ne_eqb}
use Rattle.amo_object.specs.declared.step.End.TheVariants.{Sender, Receiver}
use Rattle.amo_core.specs.declared.act.Act.TheVariants as act
use Rattle.amo_core.specs.declared.mode.Mode.TheVariants as mode
use Rattle.amo_core.specs.declared.reply.Reply.TheVariants as reply
use Rattle.amo_core.specs.declared.sender.SenderMode.{SenderMode}
use Rattle.amo_core.specs.declared.sender.SenderMode.TheVariants as sending
use Rattle.amo_core.specs.declared.receiver.ReceiverMode.{ReceiverMode}
use Rattle.amo_core.specs.declared.receiver.ReceiverMode.TheVariants as receiving
use Rattle.amo_core.specs.Row.{silent}
use Rattle.amo_core.specs.Sender as sender
use Rattle.amo_core.specs.Receiver as receiver
use Rattle.amo_world.specs.Stream.{Stream, reply_of}

-- of a sender: full, with room, or down
module _ (s : sender.SenderState) where
  full_or_not : (full : Bool) (t : sender.SenderState) → full ≡ true → (if full then silent s reply.Full else silent t reply.Ok).reply ≡ Some reply.Full
  full_or_not true t is = refl
  full_or_not false t is = cc

  room_or_not : (full : Bool) (t : sender.SenderState) → full ≡ false → (if full then silent s reply.Full else silent t reply.Ok).reply ≡ Some reply.Ok
  room_or_not true t is = cc
  room_or_not false t is = refl

  full : (at : SenderMode) (m : List ℕ) → sender.kind at ≢ mode.Down → length s.waiting ≡ 16 → (sender.put s at m).reply ≡ Some reply.Full
  full sending.Down m up is = absurd (up refl)
  full (sending.Quiet got) m up is = full_or_not _ _ (eq-eqb (length s.waiting) 16 is)
  full (sending.NeedId jd c) m up is = full_or_not _ _ (eq-eqb (length s.waiting) 16 is)
  full (sending.Send id c) m up is = full_or_not _ _ (eq-eqb (length s.waiting) 16 is)

  taken : (at : SenderMode) (m : List ℕ) → sender.kind at ≢ mode.Down → length s.waiting ≢ 16 → (sender.put s at m).reply ≡ Some reply.Ok
  taken sending.Down m up is = absurd (up refl)
  taken (sending.Quiet got) m up is = room_or_not _ _ (ne_eqb (length s.waiting) 16 is)
  taken (sending.NeedId jd c) m up is = room_or_not _ _ (ne_eqb (length s.waiting) 16 is)
  taken (sending.Send id c) m up is = room_or_not _ _ (ne_eqb (length s.waiting) 16 is)

  put_down : (at : SenderMode) (m : List ℕ) → sender.kind at ≡ mode.Down → (sender.put s at m).reply ≡ Some reply.Down
  put_down sending.Down m is = refl
  put_down (sending.Quiet got) m is = absurd cc
  put_down (sending.NeedId jd c) m is = absurd cc
  put_down (sending.Send id c) m is = absurd cc

  ack_down : (at : SenderMode) (waiting : List (List ℕ)) → sender.kind at ≡ mode.Down → (sender.get_ack s at waiting).reply ≡ Some reply.Down
  ack_down sending.Down waiting is = refl
  ack_down (sending.Quiet got) waiting is = absurd cc
  ack_down (sending.NeedId jd c) waiting is = absurd cc
  ack_down (sending.Send id c) waiting is = absurd cc

  waits : (at : SenderMode) (waiting : List (List ℕ)) → sender.kind at ≢ mode.Down → waiting ≢ [] → (sender.get_ack s at waiting).reply ≡ Some reply.NotYet
  waits sending.Down waiting up some = absurd (up refl)
  waits (sending.Quiet got) [] up some = absurd (some refl)
  waits (sending.Quiet true) (m ∷ waiting) up some = refl
  waits (sending.Quiet false) (m ∷ waiting) up some = refl
  waits (sending.NeedId jd c) waiting up some = refl
  waits (sending.Send id c) waiting up some = refl

  held : (at : SenderMode) (waiting : List (List ℕ)) → sender.held_by at ≢ [] → (sender.get_ack s at waiting).reply ≡ Some reply.NotYet
  held sending.Down waiting some = absurd (some refl)
  held (sending.Quiet got) waiting some = absurd (some refl)
  held (sending.NeedId jd c) waiting some = refl
  held (sending.Send id c) waiting some = refl

  known : (at : SenderMode) (waiting : List (List ℕ)) (got : Bool) → at ≡ sending.Quiet got → waiting ≡ [] → (sender.get_ack s at waiting).reply ≡ (sender.get_ack s (sending.Quiet got) []).reply
  known at waiting got is none =
      ap (λ (x : SenderMode). (sender.get_ack s x waiting).reply) is ∙ ap (λ (x : List (List ℕ)). (sender.get_ack s (sending.Quiet got) x).reply) none

-- of a receiver
module _ (s : receiver.ReceiverState) where
  get_down : (at : ReceiverMode) → receiver.kind at ≡ mode.Down → (receiver.get s at).reply ≡ Some reply.Down
  get_down receiving.Idle is = absurd cc
  get_down (receiving.Accept jd id) is = absurd cc
  get_down (receiving.Rcvd id m) is = absurd cc
  get_down (receiving.Ack id) is = absurd cc
  get_down receiving.Down is = refl

  got : (at : ReceiverMode) (m : List ℕ) (rest : List (List ℕ)) → receiver.held_by at ≡ m ∷ rest → (receiver.get s at).reply ≡ Some (reply.Got m)
  got receiving.Idle m rest is = absurd cc
  got (receiving.Accept jd id) m rest is = absurd cc
  got (receiving.Rcvd id held) m rest is = let same : held.first ≡ m = cc in ap (λ (x : List ℕ). Some (reply.Got x)) same
  got (receiving.Ack id) m rest is = absurd cc
  got receiving.Down m rest is = absurd cc

  nothing : (at : ReceiverMode) → receiver.kind at ≢ mode.Down → receiver.held_by at ≡ [] → (receiver.get s at).reply ≡ Some reply.Nothing
  nothing receiving.Idle up none = refl
  nothing (receiving.Accept jd id) up none = refl
  nothing (receiving.Rcvd id m) up none = absurd cc
  nothing (receiving.Ack id) up none = refl
  nothing receiving.Down up none = absurd (up refl)

-- of a stream
module _ (s : Stream) where
  pub put_while_down : (m : List ℕ) → sender.kind s.sender.state.mode ≡ mode.Down → reply_of s Sender (act.Put m) ≡ Some reply.Down
  put_while_down m is = put_down s.sender.state s.sender.state.mode m is

  pub put_while_full : (m : List ℕ) → sender.kind s.sender.state.mode ≢ mode.Down → length s.sender.state.waiting ≡ 16 → reply_of s Sender (act.Put m) ≡ Some reply.Full
  put_while_full m up is = full s.sender.state s.sender.state.mode m up is

  pub put_with_room : (m : List ℕ) → sender.kind s.sender.state.mode ≢ mode.Down → length s.sender.state.waiting ≢ 16 → reply_of s Sender (act.Put m) ≡ Some reply.Ok
  put_with_room m up is = taken s.sender.state s.sender.state.mode m up is

  pub ack_while_down : sender.kind s.sender.state.mode ≡ mode.Down → reply_of s Sender act.Ack ≡ Some reply.Down
  ack_while_down is = ack_down s.sender.state s.sender.state.mode s.sender.state.waiting is

  pub ack_while_waiting : sender.kind s.sender.state.mode ≢ mode.Down → s.sender.state.waiting ≢ [] → reply_of s Sender act.Ack ≡ Some reply.NotYet
  ack_while_waiting up some = waits s.sender.state s.sender.state.mode s.sender.state.waiting up some

  pub ack_while_held : sender.held_by s.sender.state.mode ≢ [] → reply_of s Sender act.Ack ≡ Some reply.NotYet
  ack_while_held some = held s.sender.state s.sender.state.mode s.sender.state.waiting some

  pub ack_once_got : s.sender.state.mode ≡ sending.Quiet true → s.sender.state.waiting ≡ [] → reply_of s Sender act.Ack ≡ Some reply.Yes
  ack_once_got is none = known s.sender.state s.sender.state.mode s.sender.state.waiting true is none

  pub ack_once_lost : s.sender.state.mode ≡ sending.Quiet false → s.sender.state.waiting ≡ [] → reply_of s Sender act.Ack ≡ Some reply.No
  ack_once_lost is none = known s.sender.state s.sender.state.mode s.sender.state.waiting false is none

  pub get_while_down : receiver.kind s.receiver.state.mode ≡ mode.Down → reply_of s Receiver act.Get ≡ Some reply.Down
  get_while_down is = get_down s.receiver.state s.receiver.state.mode is

  pub get_while_held : (m : List ℕ) (rest : List (List ℕ)) → receiver.held_by s.receiver.state.mode ≡ m ∷ rest → reply_of s Receiver act.Get ≡ Some (reply.Got m)
  get_while_held m rest is = got s.receiver.state s.receiver.state.mode m rest is

  pub get_while_empty : receiver.kind s.receiver.state.mode ≢ mode.Down → receiver.held_by s.receiver.state.mode ≡ [] → reply_of s Receiver act.Get ≡ Some reply.Nothing
  get_while_empty up none = nothing s.receiver.state s.receiver.state.mode up none
