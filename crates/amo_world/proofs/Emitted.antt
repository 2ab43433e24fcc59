-- What is emitted: it bears the number of its stream, and the side that emitted it keeps it.
use Rattle.std.proofs.Common.{◌≡◌, ℕ, Bool, true, false, eqb, if◌then◌else◌, Option, None, Some, List, [], ◌∷◌, ◌++◌, length, slice_get, refl, sym, ◌∙◌, ap, subst, inl, inr, ◌⊎◌}
use Rattle.std.specs.List.{Contains}
use Rattle.std.specs.Option.{IfSome, option_to_list, option_map}
use Rattle.std.proofs.lemmas.Bool.{eq-eqb}
use Rattle.std.proofs.lemmas.List.{append-nil}
use Rattle.std.proofs.lemmas.List.Elements.{Contains-append_right}
use Rattle.amo_object.specs.declared.step.End.{End}
use Rattle.amo_object.specs.declared.step.End.TheVariants.{Sender, Receiver}
use Rattle.amo_packet.specs.declared.packet.OwnedPacket.{OwnedPacket}
use Rattle.amo_packet.specs.declared.packet.OwnedBody.{OwnedBody}
use Rattle.amo_packet.specs.declared.packet.OwnedBody.TheVariants as packet
use Rattle.amo_packet.specs.Batch.{Batch, alone}
use Rattle.amo_core.specs.declared.act.Act.{Act}
use Rattle.amo_core.specs.declared.act.Act.TheVariants as act
use Rattle.amo_core.specs.declared.reply.Reply.TheVariants.{Done}
use Rattle.amo_core.specs.Row.{Row}
use Rattle.amo_core.specs.Sender as sender
use Rattle.amo_core.specs.Receiver as receiver
use Rattle.amo_core.specs.declared.sender.SenderMode.{SenderMode}
use Rattle.amo_core.specs.declared.sender.SenderMode.TheVariants as sending
use Rattle.amo_core.specs.declared.receiver.ReceiverMode.{ReceiverMode}
use Rattle.amo_core.specs.declared.receiver.ReceiverMode.TheVariants as receiving
use Rattle.amo_world.specs.declared.emission.Emission.{Emission}
use Rattle.amo_world.specs.declared.event.Event.{Event}
use Rattle.amo_world.specs.Stream.{Stream, after, reply_of, emission_of, emitted_by}
use Rattle.amo_world.specs.History.{stream_after, stream_before, after_if, emissions, event_emission, Along}
use Rattle.amo_world.proofs.Lists.{some_injective, push_cases, contains_first}

-- a row keeps the number of the stream, and what it emits bears it
abbrev SenderBears : ℕ → Row sender.SenderState → Type 0
SenderBears n r = (r.state.stream ≡ n) × IfSome r.emitted (λ p. p.stream ≡ n)

sender_either : (n : ℕ) (b : Bool) (r q : Row sender.SenderState) → SenderBears n r → SenderBears n q → SenderBears n (if b then r else q)
sender_either n true r q x y = x
sender_either n false r q x y = y

-- an act of the host has the reply Done
abbrev SenderActs : ℕ → Row sender.SenderState → Type 0
SenderActs n r = (r.state.stream ≡ n) × IfSome r.emitted (λ p. p.stream ≡ n) × (r.reply ≡ Some Done)

sender_acts_either : (n : ℕ) (b : Bool) (r q : Row sender.SenderState) → SenderActs n r → SenderActs n q → SenderActs n (if b then r else q)
sender_acts_either n true r q x y = x
sender_acts_either n false r q x y = y

sender_put : (s : sender.SenderState) (mode : SenderMode) (m : List ℕ) → SenderBears s.stream (sender.put s mode m)
sender_put s sending.Down m = (refl, tt)
sender_put s (sending.Quiet got) m = sender_either s.stream _ _ _ (refl, tt) (refl, tt)
sender_put s (sending.NeedId jd c) m = sender_either s.stream _ _ _ (refl, tt) (refl, tt)
sender_put s (sending.Send id c) m = sender_either s.stream _ _ _ (refl, tt) (refl, tt)

sender_ack : (s : sender.SenderState) (mode : SenderMode) (w : List (List ℕ)) → SenderBears s.stream (sender.get_ack s mode w)
sender_ack s sending.Down w = (refl, tt)
sender_ack s (sending.Quiet true) [] = (refl, tt)
sender_ack s (sending.Quiet false) [] = (refl, tt)
sender_ack s (sending.Quiet true) (m ∷ w) = (refl, tt)
sender_ack s (sending.Quiet false) (m ∷ w) = (refl, tt)
sender_ack s (sending.NeedId jd c) w = (refl, tt)
sender_ack s (sending.Send id c) w = (refl, tt)

sender_start : (s : sender.SenderState) (mode : SenderMode) (w : List (List ℕ)) (word : ℕ) → SenderActs s.stream (sender.start s mode w word)
sender_start s sending.Down w word = (refl, tt, refl)
sender_start s (sending.Quiet got) [] word = (refl, tt, refl)
sender_start s (sending.Quiet got) (m ∷ w) word = (refl, refl, refl)
sender_start s (sending.NeedId jd c) w word = (refl, tt, refl)
sender_start s (sending.Send id c) w word = (refl, tt, refl)

sender_batch : (s : sender.SenderState) (mode : SenderMode) (w : List (List ℕ)) (word : ℕ) → SenderActs s.stream (sender.start_batch s mode w word)
sender_batch s sending.Down w word = (refl, tt, refl)
sender_batch s (sending.Quiet got) [] word = (refl, tt, refl)
sender_batch s (sending.Quiet got) (m ∷ w) word = (refl, refl, refl)
sender_batch s (sending.NeedId jd c) w word = (refl, tt, refl)
sender_batch s (sending.Send id c) w word = (refl, tt, refl)

sender_resend : (s : sender.SenderState) (mode : SenderMode) → SenderActs s.stream (sender.resend s mode)
sender_resend s sending.Down = (refl, tt, refl)
sender_resend s (sending.Quiet got) = (refl, tt, refl)
sender_resend s (sending.NeedId jd c) = (refl, refl, refl)
sender_resend s (sending.Send id c) = (refl, refl, refl)

sender_accept : (s : sender.SenderState) (mode : SenderMode) (jd id : ℕ) → SenderActs s.stream (sender.accept s mode jd id)
sender_accept s sending.Down jd id = (refl, tt, refl)
sender_accept s (sending.Quiet got) jd id = (refl, refl, refl)
sender_accept s (sending.NeedId asked c) jd id = sender_acts_either s.stream _ _ _ (refl, refl, refl) (refl, refl, refl)
sender_accept s (sending.Send under c) jd id = sender_acts_either s.stream _ _ _ (refl, tt, refl) (refl, refl, refl)

sender_cleaning_up : (n : ℕ) (s : sender.SenderState) (id : ℕ) (got : Bool) → s.stream ≡ n → SenderActs n (sender.cleaning_up s id got)
sender_cleaning_up n s id true e = (e, e, refl)
sender_cleaning_up n s id false e = (e, tt, refl)

sender_acked : (s : sender.SenderState) (mode : SenderMode) (id : ℕ) (got : Bool) → SenderActs s.stream (sender.ack s mode id got)
sender_acked s sending.Down id got = (refl, tt, refl)
sender_acked s (sending.Quiet b) id got = sender_cleaning_up s.stream s id got refl
sender_acked s (sending.NeedId asked c) id got = sender_cleaning_up s.stream s id got refl
sender_acked s (sending.Send under c) id got = sender_acts_either s.stream _ _ _ (sender_cleaning_up s.stream (record s { mode = sending.Quiet got }) id got refl) (sender_cleaning_up s.stream s id got refl)

sender_deliver : (s : sender.SenderState) (body : OwnedBody) → SenderActs s.stream (sender.deliver s body)
sender_deliver s (packet.NeedUid jd) = (refl, tt, refl)
sender_deliver s (packet.Accept jd id) = sender_accept s s.mode jd id
sender_deliver s (packet.Send id m) = (refl, tt, refl)
sender_deliver s (packet.Ack id got) = sender_acked s s.mode id got
sender_deliver s (packet.Cleanup id) = (refl, tt, refl)
sender_deliver s (packet.Batch id b) = (refl, tt, refl)

sender_recover : (s : sender.SenderState) (mode : SenderMode) → SenderActs s.stream (sender.recover s mode)
sender_recover s sending.Down = (refl, tt, refl)
sender_recover s (sending.Quiet got) = (refl, tt, refl)
sender_recover s (sending.NeedId jd c) = (refl, tt, refl)
sender_recover s (sending.Send id c) = (refl, tt, refl)

sender_row : (s : sender.SenderState) (a : Act) → SenderBears s.stream (sender.row s a)
sender_row s (act.Put m) = sender_put s s.mode m
sender_row s act.Get = (refl, tt)
sender_row s act.Ack = sender_ack s s.mode s.waiting
sender_row s (act.Start word) = let acts = sender_start s s.mode s.waiting word in (acts.0, acts.1)
sender_row s (act.Batch word) = let acts = sender_batch s s.mode s.waiting word in (acts.0, acts.1)
sender_row s act.Resend = let acts = sender_resend s s.mode in (acts.0, acts.1)
sender_row s (act.Deliver p word) = let acts = sender_deliver s p.body in (acts.0, acts.1)
sender_row s act.Crash = (refl, tt)
sender_row s act.Recover = let acts = sender_recover s s.mode in (acts.0, acts.1)

abbrev ReceiverBears : ℕ → Row receiver.ReceiverState → Type 0
ReceiverBears n r = (r.state.stream ≡ n) × IfSome r.emitted (λ p. p.stream ≡ n)

abbrev ReceiverActs : ℕ → Row receiver.ReceiverState → Type 0
ReceiverActs n r = (r.state.stream ≡ n) × IfSome r.emitted (λ p. p.stream ≡ n) × (r.reply ≡ Some Done)

receiver_acts_either : (n : ℕ) (b : Bool) (r q : Row receiver.ReceiverState) → ReceiverActs n r → ReceiverActs n q → ReceiverActs n (if b then r else q)
receiver_acts_either n true r q x y = x
receiver_acts_either n false r q x y = y

receiver_needuid : (s : receiver.ReceiverState) (mode : ReceiverMode) (jd word : ℕ) → ReceiverActs s.stream (receiver.needuid s mode jd word)
receiver_needuid s receiving.Idle jd word = (refl, refl, refl)
receiver_needuid s (receiving.Accept asked id) jd word = receiver_acts_either s.stream _ _ _ (refl, refl, refl) (refl, tt, refl)
receiver_needuid s (receiving.Rcvd id m) jd word = (refl, tt, refl)
receiver_needuid s (receiving.Ack id) jd word = (refl, tt, refl)
receiver_needuid s receiving.Down jd word = (refl, tt, refl)

receiver_batch : (s : receiver.ReceiverState) (mode : ReceiverMode) (id : ℕ) (m : Batch) → ReceiverActs s.stream (receiver.batch s mode id m)
receiver_batch s receiving.Idle id m = (refl, refl, refl)
receiver_batch s (receiving.Accept jd accepted) id m = receiver_acts_either s.stream _ _ _ (refl, tt, refl) (refl, refl, refl)
receiver_batch s (receiving.Rcvd under held) id m = receiver_acts_either s.stream _ _ _ (refl, tt, refl) (refl, refl, refl)
receiver_batch s (receiving.Ack under) id m = (refl, refl, refl)
receiver_batch s receiving.Down id m = (refl, tt, refl)

same_number : (n : ℕ) (b : Bool) (s t : receiver.ReceiverState) → s.stream ≡ n → t.stream ≡ n → (if b then s else t).stream ≡ n
same_number n true s t p q = p
same_number n false s t p q = q

receiver_cleanup : (s : receiver.ReceiverState) (mode : ReceiverMode) (id : ℕ) → ReceiverActs s.stream (receiver.cleanup s mode id)
receiver_cleanup s receiving.Idle id = (refl, tt, refl)
receiver_cleanup s (receiving.Accept jd accepted) id = (same_number s.stream _ _ _ refl refl, tt, refl)
receiver_cleanup s (receiving.Rcvd under m) id = (refl, tt, refl)
receiver_cleanup s (receiving.Ack under) id = (same_number s.stream _ _ _ refl refl, tt, refl)
receiver_cleanup s receiving.Down id = (refl, tt, refl)

receiver_deliver : (s : receiver.ReceiverState) (body : OwnedBody) (word : ℕ) → ReceiverActs s.stream (receiver.deliver s body word)
receiver_deliver s (packet.NeedUid jd) word = receiver_needuid s s.mode jd word
receiver_deliver s (packet.Accept jd id) word = (refl, tt, refl)
receiver_deliver s (packet.Send id m) word = receiver_batch s s.mode id (alone m)
receiver_deliver s (packet.Batch id b) word = receiver_batch s s.mode id b
receiver_deliver s (packet.Ack id got) word = (refl, tt, refl)
receiver_deliver s (packet.Cleanup id) word = receiver_cleanup s s.mode id

receiver_get : (s : receiver.ReceiverState) (mode : ReceiverMode) → ReceiverBears s.stream (receiver.get s mode)
receiver_get s receiving.Idle = (refl, tt)
receiver_get s (receiving.Accept jd id) = (refl, tt)
receiver_get s (receiving.Rcvd id m) = (refl, tt)
receiver_get s (receiving.Ack id) = (refl, tt)
receiver_get s receiving.Down = (refl, tt)

receiver_resend : (s : receiver.ReceiverState) (mode : ReceiverMode) → ReceiverActs s.stream (receiver.resend s mode)
receiver_resend s receiving.Idle = (refl, tt, refl)
receiver_resend s (receiving.Accept jd id) = (refl, refl, refl)
receiver_resend s (receiving.Rcvd id m) = (refl, tt, refl)
receiver_resend s (receiving.Ack id) = (refl, refl, refl)
receiver_resend s receiving.Down = (refl, tt, refl)

receiver_recover : (s : receiver.ReceiverState) (mode : ReceiverMode) → ReceiverActs s.stream (receiver.recover s mode)
receiver_recover s receiving.Idle = (refl, tt, refl)
receiver_recover s (receiving.Accept jd id) = (refl, tt, refl)
receiver_recover s (receiving.Rcvd id m) = (refl, tt, refl)
receiver_recover s (receiving.Ack id) = (refl, tt, refl)
receiver_recover s receiving.Down = (refl, tt, refl)

receiver_row : (s : receiver.ReceiverState) (a : Act) → ReceiverBears s.stream (receiver.row s a)
receiver_row s (act.Put m) = (refl, tt)
receiver_row s act.Get = receiver_get s s.mode
receiver_row s act.Ack = (refl, tt)
receiver_row s (act.Start word) = (refl, tt)
receiver_row s (act.Batch word) = (refl, tt)
receiver_row s act.Resend = let acts = receiver_resend s s.mode in (acts.0, acts.1)
receiver_row s (act.Deliver p word) = let acts = receiver_deliver s p.body word in (acts.0, acts.1)
receiver_row s act.Crash = (refl, tt)
receiver_row s act.Recover = let acts = receiver_recover s s.mode in (acts.0, acts.1)

-- each act of the host has the reply Done
pub start_is_done : (s : Stream) (word : ℕ) → reply_of s Sender (act.Start word) ≡ Some Done
start_is_done s word = (sender_start s.sender.state s.sender.state.mode s.sender.state.waiting word).2

pub batch_is_done : (s : Stream) (word : ℕ) → reply_of s Sender (act.Batch word) ≡ Some Done
batch_is_done s word = (sender_batch s.sender.state s.sender.state.mode s.sender.state.waiting word).2

pub resend_is_done : (s : Stream) (side : End) → reply_of s side act.Resend ≡ Some Done
resend_is_done s Sender = (sender_resend s.sender.state s.sender.state.mode).2
resend_is_done s Receiver = (receiver_resend s.receiver.state s.receiver.state.mode).2

pub deliver_is_done : (s : Stream) (side : End) (p : OwnedPacket) (word : ℕ) → reply_of s side (act.Deliver p word) ≡ Some Done
deliver_is_done s Sender p word = (sender_deliver s.sender.state p.body).2
deliver_is_done s Receiver p word = (receiver_deliver s.receiver.state p.body word).2

pub crash_is_done : (s : Stream) (side : End) → reply_of s side act.Crash ≡ Some Done
crash_is_done s Sender = refl
crash_is_done s Receiver = refl

pub recover_is_done : (s : Stream) (side : End) → reply_of s side act.Recover ≡ Some Done
recover_is_done s Sender = (sender_recover s.sender.state s.sender.state.mode).2
recover_is_done s Receiver = (receiver_recover s.receiver.state s.receiver.state.mode).2

-- both sides of a stream bear its number
record BearsNumber (n : ℕ) (s : Stream) : Type 0 where
  pub sender : s.sender.state.stream ≡ n
  pub receiver : s.receiver.state.stream ≡ n

bears_after : (n : ℕ) (s : Stream) (side : End) (a : Act) → BearsNumber n s → BearsNumber n (after s side a)
bears_after n s Sender a b = record { sender = (sender_row s.sender.state a).0 ∙ b.sender; receiver = b.receiver }
bears_after n s Receiver a b = record { sender = b.sender; receiver = (receiver_row s.receiver.state a).0 ∙ b.receiver }

bears_if : (b : Bool) (n : ℕ) (s : Stream) (e : Event) → BearsNumber n s → BearsNumber n (after_if b s e)
bears_if true n s e bears = bears_after n s e.side e.act bears
bears_if false n s e bears = bears

bears : (n : ℕ) (past : List Event) → BearsNumber n (stream_after n past)
bears n [] = record { sender = refl; receiver = refl }
bears n (e ∷ past) = bears_if (eqb n e.stream) n (stream_after n past) e (bears n past)

emission_bears : (n : ℕ) (s : Stream) (side : End) (a : Act) (p : OwnedPacket) → BearsNumber n s → emission_of s side a ≡ Some p → p.stream ≡ n
emission_bears n s Sender a p b is = subst (λ (o : Option OwnedPacket). IfSome o (λ q. q.stream ≡ s.sender.state.stream)) is (sender_row s.sender.state a).1 ∙ b.sender
emission_bears n s Receiver a p b is = subst (λ (o : Option OwnedPacket). IfSome o (λ q. q.stream ≡ s.receiver.state.stream)) is (receiver_row s.receiver.state a).1 ∙ b.receiver

if_some : {X : Type 0} (o : Option X) (P : X → Type 0) → ((x : X) → o ≡ Some x → P x) → IfSome o P
if_some None P f = tt
if_some (Some x) P f = f x refl

-- the emission of an event is a packet of its side
mapped : (e : Event) (o : Option OwnedPacket) (x : Emission) → option_map (λ p. record { side = e.side; packet = p }) o ≡ Some x → (x.side ≡ e.side) × (o ≡ Some x.packet)
mapped e None x is = absurd (nothing is)
  where
    nothing : None ≡ Some x → ⊥
    nothing h = cc
mapped e (Some p) x is =
    let same : record { side = e.side; packet = p } ≡ x = some_injective _ x is in
    (sym (ap (λ (y : Emission). y.side) same), ap (λ (y : Emission). Some y.packet) same)

pub event_bears : (past : List Event) (e : Event) (x : Emission) → event_emission past e ≡ Some x → x.packet.stream ≡ e.stream
event_bears past e x is =
    let from = mapped e (emission_of (stream_before past e) e.side e.act) x is in
    emission_bears e.stream (stream_before past e) e.side e.act x.packet (bears e.stream past) from.1

pub bears_number : (past : List Event) (e : Event) → IfSome (event_emission past e) (λ x. x.packet.stream ≡ e.stream)
bears_number past e = if_some (event_emission past e) (λ x. x.packet.stream ≡ e.stream) (event_bears past e)

-- a side keeps what it emitted
grow_after : (s : Stream) (end : End) (a : Act) (side : End) (p : OwnedPacket) → Contains (emitted_by s side) p → Contains (emitted_by (after s end a) side) p
grow_after s Sender a Sender p c = Contains-append_right _ _ p c
grow_after s Sender a Receiver p c = c
grow_after s Receiver a Sender p c = c
grow_after s Receiver a Receiver p c = Contains-append_right _ _ p c

grow_if : (b : Bool) (s : Stream) (e : Event) (side : End) (p : OwnedPacket) → Contains (emitted_by s side) p → Contains (emitted_by (after_if b s e) side) p
grow_if true s e side p c = grow_after s e.side e.act side p c
grow_if false s e side p c = c

-- and what it emits now
now_after : (s : Stream) (side : End) (a : Act) (p : OwnedPacket) → emission_of s side a ≡ Some p → Contains (emitted_by (after s side a) side) p
now_after s Sender a p is = subst (λ (o : Option OwnedPacket). Contains (option_to_list o ++ s.sender.emitted) p) (sym is) (contains_first p s.sender.emitted)
now_after s Receiver a p is = subst (λ (o : Option OwnedPacket). Contains (option_to_list o ++ s.receiver.emitted) p) (sym is) (contains_first p s.receiver.emitted)

abbrev StandsAt : List Event → Emission → Type 0
StandsAt past x = Contains (emitted_by (stream_after x.packet.stream past) x.side) x.packet

now_stands : (past : List Event) (e : Event) (x : Emission) → event_emission past e ≡ Some x → StandsAt (e ∷ past) x
now_stands past e x is =
    let from = mapped e (emission_of (stream_before past e) e.side e.act) x is in
    let number = event_bears past e x is in
    let there = now_after (stream_before past e) e.side e.act x.packet from.1 in
    subst (λ (n : ℕ). Contains (emitted_by (stream_after n (e ∷ past)) x.side) x.packet) (sym number)
    (subst (λ (side : End). Contains (emitted_by (stream_after e.stream (e ∷ past)) side) x.packet) (sym from.0)
    (subst (λ (b : Bool). Contains (emitted_by (after_if b (stream_before past e) e) e.side) x.packet) (sym (eq-eqb e.stream e.stream refl)) there))

pub stands : (past : List Event) (number : ℕ) (x : Emission) → slice_get (emissions past) number ≡ Some x → StandsAt past x
stands [] number x is = absurd (nothing is)
  where
    nothing : slice_get [] number ≡ Some x → ⊥
    nothing h = cc
stands (e ∷ past) number x is = cases (λ old. stands past number x old) (event_emission past e) refl is
  where
    before : (slice_get (emissions past) number ≡ Some x → StandsAt past x) → slice_get (emissions past) number ≡ Some x → StandsAt (e ∷ past) x
    before rest old = grow_if (eqb x.packet.stream e.stream) (stream_after x.packet.stream past) e x.side x.packet (rest old)

    pushed : (slice_get (emissions past) number ≡ Some x → StandsAt past x) → (y : Emission) → event_emission past e ≡ Some y
        → ((length (emissions past) ≡ number) × (y ≡ x)) ⊎ (slice_get (emissions past) number ≡ Some x) → StandsAt (e ∷ past) x
    pushed rest y now (inl (end, same)) = now_stands past e x (now ∙ ap (λ (z : Emission). Some z) same)
    pushed rest y now (inr old) = before rest old

    cases : (slice_get (emissions past) number ≡ Some x → StandsAt past x) → (o : Option Emission) → event_emission past e ≡ o
        → slice_get (emissions past ++ option_to_list o) number ≡ Some x → StandsAt (e ∷ past) x
    cases rest None now at = before rest (ap (λ (es : List Emission). slice_get es number) (sym (append-nil (emissions past))) ∙ at)
    cases rest (Some y) now at = pushed rest y now (push_cases (emissions past) y number x at)

pub what_stands : (past : List Event) (number : ℕ) → IfSome (slice_get (emissions past) number) (λ x. StandsAt past x)
what_stands past number = if_some (slice_get (emissions past) number) (λ x. StandsAt past x) (stands past number)

-- what is emitted bears the number of a stream at which something happened
pub of_stream : (P : ℕ → Type 0) (past : List Event) (number : ℕ) (x : Emission) → Along (λ before e. P e.stream) past → slice_get (emissions past) number ≡ Some x → P x.packet.stream
of_stream P [] number x all is = absurd (nothing is)
  where
    nothing : slice_get [] number ≡ Some x → ⊥
    nothing h = cc
of_stream P (e ∷ past) number x all is = cases (λ old. of_stream P past number x all.1 old) (event_emission past e) refl is
  where
    pushed : (slice_get (emissions past) number ≡ Some x → P x.packet.stream) → (y : Emission) → event_emission past e ≡ Some y
        → ((length (emissions past) ≡ number) × (y ≡ x)) ⊎ (slice_get (emissions past) number ≡ Some x) → P x.packet.stream
    pushed rest y now (inl (end, same)) = subst P (sym (event_bears past e x (now ∙ ap (λ (z : Emission). Some z) same))) all.0
    pushed rest y now (inr old) = rest old

    cases : (slice_get (emissions past) number ≡ Some x → P x.packet.stream) → (o : Option Emission) → event_emission past e ≡ o
        → slice_get (emissions past ++ option_to_list o) number ≡ Some x → P x.packet.stream
    cases rest None now at = rest (ap (λ (es : List Emission). slice_get es number) (sym (append-nil (emissions past))) ∙ at)
    cases rest (Some y) now at = pushed rest y now (push_cases (emissions past) y number x at)

-- the packet that a world lends is the one that was emitted
pub lent_stream : (P : ℕ → Type 0) (past : List Event) (number : ℕ) (o : Option Emission) → Along (λ before e. P e.stream) past → o ≡ slice_get (emissions past) number → IfSome o (λ x. P x.packet.stream)
lent_stream P past number o all is = if_some o (λ x. P x.packet.stream) (λ x some. of_stream P past number x all (sym is ∙ some))
