-- The event of a line is right and honest.
use Rattle.std.proofs.Common.{◌≡◌, ℕ, ◌+◌, Bool, true, false, eqb, not, Option, None, Some, Result, Ok, Err, List, [], ◌∷◌, length, slice_get, if◌then◌else◌, refl, sym, ◌∙◌, ap, subst}
use Rattle.std.specs.Prelude.{unwrap_or, nat_eq}
use Rattle.std.specs.List.{Contains, list_any}
use Rattle.std.specs.Option.{option_map, IfSome}
use Rattle.std.proofs.lemmas.Bool.{eqb-true}
use Rattle.std.proofs.lemmas.Cmp.{nat_eq_equiv}
use Rattle.std.proofs.lemmas.Map.Views.{Contains-from_any, list_any-from_Contains}
use Rattle.amo_object.specs.declared.step.End.{End}
use Rattle.amo_object.specs.declared.step.End.TheVariants.{Sender, Receiver}
use Rattle.amo_object.specs.End.{other}
use Rattle.amo_core.specs.Sender as sender
use Rattle.amo_core.specs.Receiver as receiver
use Rattle.amo_core.specs.Row.{silent}
use Rattle.amo_core.specs.declared.sender.SenderMode.{SenderMode}
use Rattle.amo_core.specs.declared.sender.SenderMode.TheVariants as sending
use Rattle.amo_core.specs.declared.receiver.ReceiverMode.{ReceiverMode}
use Rattle.amo_core.specs.declared.receiver.ReceiverMode.TheVariants as receiving
use Rattle.amo_core.specs.declared.reply.Reply.{Reply}
use Rattle.amo_core.specs.declared.reply.Reply.TheVariants as reply
use Rattle.amo_world.specs.declared.emission.Emission.{Emission}
use Rattle.amo_world.specs.declared.event.Event.{Event}
use Rattle.amo_world.specs.Stream.{reply_of, emitted_by, word_of, words_of}
use Rattle.amo_world.specs.declared.fault.WorldFault.{WorldFault}
use Rattle.amo_world.specs.declared.fault.WorldFault.TheVariants.{NoMemory, WrongReply, Unsent, Repeat}
use Rattle.amo_world.specs.History.{stream_after, stream_before, emissions, HasRightReply, DeliversEmitted, UsesNewWord}
use Rattle.amo_packet.specs.declared.packet.OwnedPacket.{OwnedPacket}
use Rattle.amo_packet.specs.Grammar.{spelling}
use Rattle.amo_world.proofs.Kept.{emission_by}
use Rattle.amo_world.proofs.Emitted.{start_is_done, batch_is_done, resend_is_done, deliver_is_done, crash_is_done, recover_is_done, stands}
use Rattle.amo_replay.specs.Transcript.{delivery, event_of, replied, is_new, uses_new_word, checked, applied}
use Rattle.amo_schedule.specs.declared.line.ScheduleLine.{ScheduleLine}
use Rattle.amo_schedule.specs.declared.line.ScheduleLine.TheVariants.{Put, Get, Ack, Start, Batch, Resend, Deliver, Crash, Recover}
use Rattle.amo_replay.specs.Stop.{StopsAs}
use Rattle.amo_replay.specs.declared.stop.Stop.{Stop}
use Rattle.amo_replay.specs.declared.stop.Stop.TheVariants.{Ended, Failed}
use Rattle.amo_replay.specs.declared.fault.ToolFault.TheVariants as fault
use Rattle.amo_replay.specs.declared.endings.Ending.{Ending}
use Rattle.amo_replay.specs.declared.endings.Ending.TheVariants as ending

-- each call of a client has a reply
put_replies : (full : Bool) (s t : sender.SenderState) → (if full then silent s reply.Full else silent t reply.Ok).reply ≡ Some (unwrap_or (if full then silent s reply.Full else silent t reply.Ok).reply reply.Done)
put_replies true s t = refl
put_replies false s t = refl

put_has : (s : sender.SenderState) (mode : SenderMode) (m : List ℕ) → (sender.put s mode m).reply ≡ Some (unwrap_or (sender.put s mode m).reply reply.Done)
put_has s sending.Down m = refl
put_has s (sending.Quiet got) m = put_replies (eqb (length s.waiting) 16) s _
put_has s (sending.NeedId jd c) m = put_replies (eqb (length s.waiting) 16) s _
put_has s (sending.Send id c) m = put_replies (eqb (length s.waiting) 16) s _

ack_has : (s : sender.SenderState) (mode : SenderMode) (w : List (List ℕ)) → (sender.get_ack s mode w).reply ≡ Some (unwrap_or (sender.get_ack s mode w).reply reply.Done)
ack_has s sending.Down w = refl
ack_has s (sending.Quiet true) [] = refl
ack_has s (sending.Quiet false) [] = refl
ack_has s (sending.Quiet true) (m ∷ w) = refl
ack_has s (sending.Quiet false) (m ∷ w) = refl
ack_has s (sending.NeedId jd c) w = refl
ack_has s (sending.Send id c) w = refl

get_has : (s : receiver.ReceiverState) (mode : ReceiverMode) → (receiver.get s mode).reply ≡ Some (unwrap_or (receiver.get s mode).reply reply.Done)
get_has s receiving.Idle = refl
get_has s (receiving.Accept jd id) = refl
get_has s (receiving.Rcvd id b) = refl
get_has s (receiving.Ack id) = refl
get_has s receiving.Down = refl

-- the act of an event has a reply
abbrev HasReply : List Event → Event → Type 0
HasReply past e = reply_of (stream_before past e) e.side e.act ≡ Some (unwrap_or (reply_of (stream_before past e) e.side e.act) reply.Done)

is_done : (o : Option Reply) → o ≡ Some reply.Done → o ≡ Some (unwrap_or o reply.Done)
is_done o e = e ∙ sym (ap (λ (x : Option Reply). Some (unwrap_or x reply.Done)) e)

delivers_right : (past : List Event) (number word : ℕ) (o : Option Emission) → IfSome (option_map (delivery word) o) (HasReply past)
delivers_right past number word None = tt
delivers_right past number word (Some x) = is_done _ (deliver_is_done (stream_after x.packet.stream past) (other x.side) x.packet word)

line_right : (past : List Event) (line : ScheduleLine) → IfSome (event_of past line) (HasReply past)
line_right past (Put s m) = put_has (stream_after s past).sender.state (stream_after s past).sender.state.mode m
line_right past (Get s) = get_has (stream_after s past).receiver.state (stream_after s past).receiver.state.mode
line_right past (Ack s) = ack_has (stream_after s past).sender.state (stream_after s past).sender.state.mode (stream_after s past).sender.state.waiting
line_right past (Start s word) = is_done _ (start_is_done (stream_after s past) word)
line_right past (Batch s word) = is_done _ (batch_is_done (stream_after s past) word)
line_right past (Resend side s) = is_done _ (resend_is_done (stream_after s past) side)
line_right past (Deliver number word) = delivers_right past number word (slice_get (emissions past) number)
line_right past (Crash side s) = is_done _ (crash_is_done (stream_after s past) side)
line_right past (Recover side s) = is_done _ (recover_is_done (stream_after s past) side)

-- what is delivered was emitted
other_other : (side : End) → other (other side) ≡ side
other_other Sender = refl
other_other Receiver = refl

delivers_honest : (past : List Event) (number word : ℕ) (o : Option Emission) → slice_get (emissions past) number ≡ o → IfSome (option_map (delivery word) o) (DeliversEmitted past)
delivers_honest past number word None is = tt
delivers_honest past number word (Some x) is =
    subst (λ (side : End). Contains (emitted_by (stream_after x.packet.stream past) side) x.packet) (sym (other_other x.side)) (stands past number x is)

line_honest : (past : List Event) (line : ScheduleLine) → IfSome (event_of past line) (DeliversEmitted past)
line_honest past (Put s m) = tt
line_honest past (Get s) = tt
line_honest past (Ack s) = tt
line_honest past (Start s word) = tt
line_honest past (Batch s word) = tt
line_honest past (Resend side s) = tt
line_honest past (Deliver number word) = delivers_honest past number word (slice_get (emissions past) number) refl
line_honest past (Crash side s) = tt
line_honest past (Recover side s) = tt

at_some : {X : Type 0} (o : Option X) (P : X → Type 0) (x : X) → o ≡ Some x → IfSome o P → P x
at_some o P x is all = subst (λ (y : Option _). IfSome y P) is all

pub right_of : (past : List Event) (line : ScheduleLine) (e : Event) → event_of past line ≡ Some e → HasRightReply past (replied past e)
right_of past line e is = at_some (event_of past line) (HasReply past) e is (line_right past line)

pub honest_of : (past : List Event) (line : ScheduleLine) (e : Event) → event_of past line ≡ Some e → DeliversEmitted past (replied past e)
honest_of past line e is = at_some (event_of past line) (DeliversEmitted past) e is (line_honest past line)

-- a word is new where the list does not contain it
same_number : (x y : ℕ) → nat_eq x y ≡ true → x ≡ y
same_number x y e = eqb-true x y e

new_word : (used : List ℕ) (o : Option ℕ) → is_new used o ≡ true → IfSome o (λ word. ¬ (Contains used word))
new_word used None e = tt
new_word used (Some word) e = λ c. clash (list_any (nat_eq word) used) e (list_any-from_Contains nat_eq_equiv word used c)
  where
    clash : (b : Bool) → not b ≡ true → b ≡ true → ⊥
    clash true e is = cc
    clash false e is = cc

old_word : (used : List ℕ) (o : Option ℕ) → is_new used o ≡ false → IfSome o (λ word. ¬ (Contains used word)) → ⊥
old_word used None e new = cc
old_word used (Some word) e new = new (Contains-from_any same_number word used (twice (list_any (nat_eq word) used) e))
  where
    twice : (b : Bool) → not b ≡ false → b ≡ true
    twice true e = refl
    twice false e = absurd cc

pub fresh_of : (past : List Event) (e : Event) → uses_new_word past e ≡ true → UsesNewWord past (replied past e)
fresh_of past e is = new_word (words_of (stream_before past e) e.side) (word_of (stream_before past e) e.side e.act) is

pub not_fresh_of : (past : List Event) (e : Event) → uses_new_word past e ≡ false → UsesNewWord past (replied past e) → ⊥
not_fresh_of past e is = old_word (words_of (stream_before past e) e.side) (word_of (stream_before past e) e.side e.act) is

-- what applying an event comes to, from what is known of its word
abbrev the_check : Bool → List Event → Event → Result Event Ending
the_check b past e = if b then Ok (replied past e) else Err (ending.Repeat (length past + 1))

abbrev ok_value : Event → Result Event Ending → Event
ok_value d (Ok x) = x
ok_value d (Err ending) = d

abbrev applies : Event → Result Event Ending
applies e = Ok e

ok_injective : (x y : Event) → applies x ≡ applies y → x ≡ y
ok_injective x y e = ap (ok_value x) e

fresh_cases : (past : List Event) (e : Event) (b : Bool) → uses_new_word past e ≡ b → UsesNewWord past (replied past e) → b ≡ true
fresh_cases past e true is new = refl
fresh_cases past e false is new = absurd (not_fresh_of past e is new)

repeat_cases : (past : List Event) (e : Event) (b : Bool) → uses_new_word past e ≡ b → (UsesNewWord past (replied past e) → ⊥) → b ≡ false
repeat_cases past e true is old = absurd (old (fresh_of past e is))
repeat_cases past e false is old = refl

-- an event that is applied is right, honest and fresh
applied_event : (past : List Event) (line : ScheduleLine) (o : Option Event) (e : Event) → event_of past line ≡ o → checked past o ≡ Ok e → HasRightReply past e × DeliversEmitted past e × UsesNewWord past e
applied_event past line None e is ok = absurd (ended ok)
  where
    ended : checked past None ≡ Ok e → ⊥
    ended h = cc
applied_event past line (Some f) e is ok = cases (uses_new_word past f) refl ok
  where
    cases : (b : Bool) → uses_new_word past f ≡ b → the_check b past f ≡ Ok e → HasRightReply past e × DeliversEmitted past e × UsesNewWord past e
    cases true new answered = let same : replied past f ≡ e = ok_injective _ _ answered in
        subst (λ (x : Event). HasRightReply past x × DeliversEmitted past x × UsesNewWord past x) same (right_of past line f is, honest_of past line f is, fresh_of past f new)
    cases false old answered = absurd (differ answered)
      where
        differ : the_check false past f ≡ Ok e → ⊥
        differ h = cc

pub applied_soundly : (past : List Event) (line : ScheduleLine) (e : Event) → applied past line ≡ Ok e → HasRightReply past e × DeliversEmitted past e × UsesNewWord past e
applied_soundly past line e is = applied_event past line (event_of past line) e refl is

-- the spelling of an event's emission
pub spelt_emission : (side : End) (o : Option OwnedPacket) → option_map (λ x. spelling x.packet) (option_map (emission_by side) o) ≡ option_map spelling o
spelt_emission side None = refl
spelt_emission side (Some p) = refl

abbrev end_of : Ending → Result Event Ending → Ending
end_of d (Ok e) = d
end_of d (Err ending) = ending

-- a line does not end a replay as malformed
pub never_malformed : (past : List Event) (number : ℕ) (o : Option Event) → checked past o ≡ Err (ending.Malformed number) → ⊥
never_malformed past number None e = other_end (length past + 1) number (ap (end_of ending.Done) e)
  where
    other_end : (m n : ℕ) → ending.Unsent m ≡ ending.Malformed n → ⊥
    other_end m n h = cc
never_malformed past number (Some f) e = cases (uses_new_word past f) e
  where
    cases : (b : Bool) → the_check b past f ≡ Err (ending.Malformed number) → ⊥
    cases true answered = other_end number (ap (end_of ending.Done) answered)
      where
        other_end : (n : ℕ) → ending.Done ≡ ending.Malformed n → ⊥
        other_end n h = cc
    cases false answered = other_end (length past + 1) number (ap (end_of ending.Done) answered)
      where
        other_end : (m n : ℕ) → ending.Repeat m ≡ ending.Malformed n → ⊥
        other_end m n h = cc

-- an event of a reply that is right, after a history
pub checked_event : (past : List Event) (e answered : Event) → answered ≡ replied past e → UsesNewWord past answered → checked past (Some e) ≡ Ok answered
checked_event past e answered is new =
    ap (λ (b : Bool). the_check b past e) (fresh_cases past e (uses_new_word past e) refl (subst (λ (x : Event). UsesNewWord past x) is new))
    ∙ ap applies (sym is)

-- the fault of an event of a reply that is right, which delivers what was emitted
pub refused : (past : List Event) (e answered : Event) (f : WorldFault) (s : Stop) (count : ℕ) → answered ≡ replied past e → count ≡ length past
    → (f ≡ WrongReply → ⊥) → (f ≡ Unsent → ⊥) → (f ≡ Repeat → ¬ (UsesNewWord past answered))
    → (f ≡ NoMemory → s ≡ Failed fault.NoMemory) → (f ≡ Repeat → s ≡ Ended (ending.Repeat (count + 1))) → StopsAs (checked past (Some e)) s
refused past e answered WrongReply s count is counted wrong unsent repeat memory ended = absurd (wrong refl)
refused past e answered Unsent s count is counted wrong unsent repeat memory ended = absurd (unsent refl)
refused past e answered NoMemory s count is counted wrong unsent repeat memory ended =
    subst (λ (x : Stop). StopsAs (checked past (Some e)) x) (sym (memory refl)) tt
refused past e answered Repeat s count is counted wrong unsent repeat memory ended =
    subst (λ (x : Stop). StopsAs (checked past (Some e)) x) (sym (ended refl))
    (ap (λ (b : Bool). the_check b past e) (repeat_cases past e (uses_new_word past e) refl (λ new. repeat refl (subst (λ (x : Event). UsesNewWord past x) (sym is) new)))
    ∙ ap (λ (n : ℕ). Err (ending.Repeat (n + 1))) (sym counted))
