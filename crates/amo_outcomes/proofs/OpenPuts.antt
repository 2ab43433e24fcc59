-- The puts without an answer are the last ones, in a row; and a history of these alone stands for another one in which they are the same.
use Rattle.std.proofs.Common.{◌≡◌, ℕ, zero, suc, ◌+◌, ◌-◌, ◌<◌, ◌≤◌, Bool, true, false, eqb, if◌then◌else◌, List, [], ◌∷◌, ◌++◌, length, take, drop, refl, sym, ◌∙◌, ap, subst, inl, inr, arith}
use Rattle.std.specs.List.{Contains, range_with_len}
use Rattle.std.proofs.lemmas.List.{length-take}
use Rattle.std.proofs.lemmas.List.Elements.{Contains-append_cases}
use Rattle.std.proofs.lemmas.List.FromFn.{length-range_with_len}
use Rattle.amo_object.specs.declared.step.End.{End}
use Rattle.amo_object.specs.declared.step.End.TheVariants.{Sender, Receiver}
use Rattle.amo_packet.specs.declared.packet.OwnedBody.{OwnedBody}
use Rattle.amo_packet.specs.declared.packet.OwnedBody.TheVariants as packet
use Rattle.amo_core.specs.declared.act.Act.{Act}
use Rattle.amo_core.specs.declared.act.Act.TheVariants as act
use Rattle.amo_core.specs.declared.payload.Payload.{Payload}
use Rattle.amo_core.specs.declared.payload.Payload.TheVariants as payload
use Rattle.amo_core.specs.Sender as sender
use Rattle.amo_core.specs.declared.sender.SenderMode.{SenderMode}
use Rattle.amo_core.specs.declared.sender.SenderMode.TheVariants as sending
use Rattle.amo_world.specs.declared.event.Event.{Event}
use Rattle.amo_world.specs.Stream.{Stream, after}
use Rattle.amo_world.specs.History.{stream_after, after_if}
use Rattle.amo_world.proofs.Lists.{contains_nothing}
use Rattle.amo_outcomes.specs.declared.sender_outcome.SenderOutcome.TheVariants.{Got, Unknown}
use Rattle.amo_outcomes.specs.SenderOutcome.{HasSenderOutcome}
use Rattle.amo_outcomes.specs.Puts.{Handshake, Puts, none, sent_under, acted, acted_if, puts_after}
use Rattle.amo_outcomes.specs.Outcome.{asking}
use Rattle.amo_outcomes.specs.Heard.{Heard, all_sent, heard_ack, heard_body, heard_act, hears, settles, heard_by, heard_if, heard_after}
use Rattle.amo_outcomes.specs.StandsFor.{AreThose, StandsFor, moved, unanswered}
use Rattle.amo_outcomes.proofs.Runs.{drop_range, range_contains, range_push, take_range}
use Rattle.amo_outcomes.proofs.SenderRows.{OfRows, HoldOfChanges, by_rows, with_put, with_carried, with_none, with_sent}
use Rattle.amo_outcomes.proofs.SenderOrder.{AreSame, in_order, receiver_leaves, same_mode, under_was_sent}
use Rattle.amo_outcomes.proofs.StandsFor.{alike_modes, asking_unanswered, both_alike, moved_alike, of_number}

-- these puts are before one
abbrev Before : ℕ → List ℕ → Type 0
Before first puts = (put : ℕ) → Contains puts put → put < first

before_more : (first later : ℕ) (puts : List ℕ) → first ≤ later → Before first puts → Before later puts
before_more first later puts less before put c = let one = before put c in omega (arith, one, less)

before_both : (first : ℕ) (xs ys : List ℕ) → Before first xs → Before first ys → Before first (xs ++ ys)
before_both first xs ys one other put c = elim (Contains-append_cases xs ys put c) [ inl x ↦ one put x | inr y ↦ other put y ]

-- how many messages the open handshake has
abbrev pub held : SenderMode → ℕ
held mode = length (sender.held_by mode)

-- the puts of the open handshake, in a row, and all that were sent before it
abbrev HoldsRun : ℕ → SenderMode → Puts → Type 0
HoldsRun first (sending.NeedId jd load) p = (p.carried ≡ range_with_len first (length (sender.messages_in load))) × Before first (all_sent p.sent)
HoldsRun first (sending.Send id load) p = (older : List Handshake) × (p.sent ≡ record { id = id; puts = range_with_len first (length (sender.messages_in load)) } ∷ older) × Before first (all_sent older)
HoldsRun first (sending.Quiet got) p = Before first (all_sent p.sent)
HoldsRun first sending.Down p = Before first (all_sent p.sent)

-- from this one on no put has an answer, and those before it wait no more
record OpenFrom (first : ℕ) (mode : SenderMode) (p : Puts) : Type 0 where
  within : first + held mode ≤ p.count
  waiting : p.waiting ≡ range_with_len (first + held mode) (p.count - (first + held mode))
  run : HoldsRun first mode p

record Answered (first : ℕ) (h : Heard) : Type 0 where
  got : Before first h.got
  settled : Before first h.settled

answered_more : (first later : ℕ) (h : Heard) → first ≤ later → Answered first h → Answered later h
answered_more first later h less a = record { got = before_more first later h.got less a.got; settled = before_more first later h.settled less a.settled }

abbrev IsOpen : SenderMode → Puts → Heard → Type 0
IsOpen mode p h = (first : ℕ) × OpenFrom first mode p × Answered first h

-- all that were sent stand in front of those that wait
sent_before : (first : ℕ) (mode : SenderMode) (p : Puts) → OpenFrom first mode p → Before (first + held mode) (all_sent p.sent)
sent_before first (sending.Quiet got) p o = before_more first (first + 0) (all_sent p.sent) (omega arith) o.run
sent_before first sending.Down p o = before_more first (first + 0) (all_sent p.sent) (omega arith) o.run
sent_before first (sending.NeedId jd load) p o = before_more first (first + length (sender.messages_in load)) (all_sent p.sent) (omega arith) o.run.1
sent_before first (sending.Send id load) p o =
    let many = length (sender.messages_in load) in
    subst (λ (hs : List Handshake). Before (first + many) (all_sent hs)) (sym o.run.1)
    (before_both (first + many) (all_sent o.run.0) (range_with_len first many) (before_more first (first + many) (all_sent o.run.0) (omega arith) o.run.2)
    (λ put c. (range_contains first many put c).1))

-- an ack that comes is not one that ends the open handshake
abbrev IsOther : ℕ → OwnedBody → Type 0
IsOther under (packet.Ack id got) = eqb under id ≡ false
IsOther under body = Unit {0}

abbrev IsOtherAct : ℕ → Act → Type 0
IsOtherAct under (act.Deliver p word) = IsOther under p.body
IsOtherAct under a = Unit {0}

abbrev IsNoAnswer : SenderMode → SenderMode → Act → Type 0
IsNoAnswer (sending.Send under load) (sending.Send id sent) a = IsOtherAct under a
IsNoAnswer mode now a = Unit {0}

-- what an ack says of puts in front of one
ack_answers : (first : ℕ) (got : Bool) (puts : List ℕ) (h : Heard) → Before first puts → Answered first h → Answered first (heard_ack got puts h)
ack_answers first true puts h before a = record { got = before_both first h.got puts a.got before; settled = a.settled }
ack_answers first false puts h before a = record { got = a.got; settled = before_both first h.settled puts a.settled before }

body_answers : (first : ℕ) (body : OwnedBody) (sent : List Handshake) (h : Heard) → Before first (all_sent sent) → Answered first h → Answered first (heard_body body sent h)
body_answers first (packet.Ack id got) sent h before a = ack_answers first got (sent_under sent id) h (λ put c. before put (under_was_sent sent id put c)) a
body_answers first body sent h before a = a

act_answers : (first : ℕ) (a : Act) (sent : List Handshake) (h : Heard) → Before first (all_sent sent) → Answered first h → Answered first (heard_act a sent h)
act_answers first (act.Deliver p word) sent h before answered = body_answers first p.body sent h before answered
act_answers first a sent h before answered = answered

-- where the newest handshake is the open one
module _ (first id : ℕ) (puts : List ℕ) (older : List Handshake) (before : Before first (all_sent older)) where
  abbrev sent : List Handshake
  sent = record { id = id; puts = puts } ∷ older

  other_body : (body : OwnedBody) (h : Heard) → IsOther id body → Answered first h → Answered first (heard_body body sent h)
  other_body (packet.Ack other got) h apart a =
      ack_answers first got (sent_under sent other) h
      (subst (λ (b : Bool). Before first (if b then puts else sent_under older other)) (sym apart) (λ put c. before put (under_was_sent older other put c))) a
  other_body (packet.NeedUid jd) h apart a = a
  other_body (packet.Accept jd new) h apart a = a
  other_body (packet.Send under m) h apart a = a
  other_body (packet.Cleanup under) h apart a = a
  other_body (packet.Batch under b) h apart a = a

  other_act : (a : Act) (h : Heard) → IsOtherAct id a → Answered first h → Answered first (heard_act a sent h)
  other_act (act.Deliver p word) h apart answered = other_body p.body h apart answered
  other_act (act.Put m) h apart answered = answered
  other_act act.Get h apart answered = answered
  other_act act.Ack h apart answered = answered
  other_act (act.Start word) h apart answered = answered
  other_act (act.Batch word) h apart answered = answered
  other_act act.Resend h apart answered = answered
  other_act act.Crash h apart answered = answered
  other_act act.Recover h apart answered = answered

-- in a mode that stays
stays_answered : (first : ℕ) (mode : SenderMode) (p : Puts) (a : Act) (h : Heard) → OpenFrom first mode p → IsNoAnswer mode mode a → Answered first h → Answered first (hears mode a p.sent h)
stays_answered first (sending.Quiet got) p a h o none answered = act_answers first a p.sent h o.run answered
stays_answered first (sending.NeedId jd load) p a h o none answered = act_answers first a p.sent h o.run.1 answered
stays_answered first (sending.Send id load) p a h o none answered =
    subst (λ (hs : List Handshake). Answered first (heard_act a hs h)) (sym o.run.1)
    (other_act first id (range_with_len first (length (sender.messages_in load))) o.run.0 o.run.2 a h none answered)
stays_answered first sending.Down p a h o none answered = answered

abbrev KeepsOpen : OfRows
KeepsOpen mode waiting p a r now left q =
    length p.waiting ≡ length waiting → IsNoAnswer mode now a → (h : Heard) → IsOpen mode p h → IsOpen now q (settles mode now p.sent (hears mode a p.sent h))

-- one put more waits behind those that do
run_with_put : (first : ℕ) (mode : SenderMode) (p : Puts) → HoldsRun first mode p → HoldsRun first mode (with_put p)
run_with_put first (sending.Quiet got) p run = run
run_with_put first (sending.NeedId jd load) p run = run
run_with_put first (sending.Send id load) p run = run
run_with_put first sending.Down p run = run

open_with_put : (first : ℕ) (mode : SenderMode) (p : Puts) → OpenFrom first mode p → OpenFrom first mode (with_put p)
open_with_put first mode p o = record {
  within = omega (arith, o.within);
  waiting =
      ap (λ (ns : List ℕ). ns ++ p.count ∷ []) o.waiting
      ∙ ap (λ (n : ℕ). range_with_len (first + held mode) (p.count - (first + held mode)) ++ n ∷ []) (omega (arith, o.within))
      ∙ range_push (first + held mode) (p.count - (first + held mode))
      ∙ ap (range_with_len (first + held mode)) (omega (arith, o.within));
  run = run_with_put first mode p o.run;
}

-- none waits any more
open_with_none : (first : ℕ) (mode : SenderMode) (p : Puts) → OpenFrom first mode p → OpenFrom p.count sending.Down (with_none p)
open_with_none first mode p o = record {
  within = omega arith;
  waiting = ap (range_with_len (p.count + 0)) (zero_left p.count);
  run = before_more (first + held mode) p.count (all_sent p.sent) o.within (sent_before first mode p o);
}
  where
    zero_left : (n : ℕ) → zero ≡ n - (n + 0)
    zero_left n = omega arith

deaf : (mode : SenderMode) (sent : List Handshake) (h : Heard) → settles mode sending.Down sent (hears mode act.Crash sent h) ≡ h
deaf (sending.Quiet got) sent h = refl
deaf (sending.NeedId jd load) sent h = refl
deaf (sending.Send id load) sent h = refl
deaf sending.Down sent h = refl

put_deaf : (mode : SenderMode) (sent : List Handshake) (m : List ℕ) (h : Heard) → settles mode mode sent (hears mode (act.Put m) sent h) ≡ h
put_deaf (sending.Quiet got) sent m h = refl
put_deaf (sending.NeedId jd load) sent m h = refl
put_deaf (sending.Send id load) sent m h = refl
put_deaf sending.Down sent m h = refl

-- the first ones are asked for
open_with_carried : (first many word : ℕ) (got : Bool) (load : Payload) (p : Puts) → many ≡ length (sender.messages_in load) → many ≤ length p.waiting → OpenFrom first (sending.Quiet got) p
    → OpenFrom first (sending.NeedId word load) (with_carried many p)
open_with_carried first many word got load p is fits o = record {
  within = omega (arith, o.within, long, fits, is);
  waiting =
      ap (drop many) o.waiting ∙ drop_range many (first + 0) (p.count - (first + 0)) (omega (arith, long, fits))
      ∙ ap (λ (n : ℕ). range_with_len n ((p.count - (first + 0)) - many)) (omega (arith, is))
      ∙ ap (range_with_len (first + length (sender.messages_in load))) (omega (arith, is));
  run = (
    ap (take many) o.waiting ∙ take_range many (first + 0) (p.count - (first + 0)) (omega (arith, long, fits))
        ∙ ap (λ (n : ℕ). range_with_len n many) (omega arith) ∙ ap (range_with_len first) is,
    o.run,
  );
}
  where
    long : length p.waiting ≡ p.count - (first + 0)
    long = ap length o.waiting ∙ length-range_with_len (first + 0) (p.count - (first + 0))

-- what was asked for is sent
open_with_sent : (first asked id : ℕ) (load : Payload) (p : Puts) → OpenFrom first (sending.NeedId asked load) p → OpenFrom first (sending.Send id load) (with_sent id p)
open_with_sent first asked id load p o = record {
  within = o.within;
  waiting = o.waiting;
  run = (p.sent, ap (λ (puts : List ℕ). one puts) o.run.0, o.run.1);
}
  where
    one : List ℕ → List Handshake
    one puts = record { id = id; puts = puts } ∷ p.sent

-- what was sent has its answer
open_behind : (first under : ℕ) (got : Bool) (load : Payload) (p : Puts) → OpenFrom first (sending.Send under load) p → OpenFrom (first + length (sender.messages_in load)) (sending.Quiet got) p
open_behind first under got load p o =
    let later = first + length (sender.messages_in load) in record {
      within = omega (arith, o.within);
      waiting = o.waiting ∙ ap (λ (n : ℕ). range_with_len n (p.count - later)) (omega arith) ∙ ap (range_with_len (later + 0)) (omega arith);
      run = sent_before first (sending.Send under load) p o;
    }

keeps_open : HoldOfChanges KeepsOpen
keeps_open = record {
  stays = λ mode waiting p a r up same many none h (first, o, answered). (
    first,
    o,
    subst (Answered first) (sym (same_mode mode p.sent (hears mode a p.sent h))) (stays_answered first mode p a h o none answered),
  );
  stays_down = λ waiting p a r many none h (first, o, answered). (
    p.count,
    open_with_none first sending.Down p o,
    answered_more first p.count h (omega (arith, o.within)) answered,
  );
  puts = λ mode waiting p m up many none h (first, o, answered). (
    first,
    open_with_put first mode p o,
    subst (Answered first) (sym (put_deaf mode p.sent m h)) answered,
  );
  starts = λ got m rest word p many none h (first, o, answered). (
    first,
    open_with_carried first 1 word got (payload.Message m) p refl (omega (arith, many)) o,
    answered,
  );
  starts_batch = λ got m rest word p many none h (first, o, answered). (
    first,
    open_with_carried first (length (m ∷ take 3 rest)) word got (payload.Batch (record { first = m; rest = take 3 rest })) p refl (omega (arith, many, length-take 3 rest)) o,
    answered,
  );
  sends = λ asked jd id k word load waiting p same many none h (first, o, answered). (
    first,
    open_with_sent first asked id load p o,
    record { got = answered.got; settled = o.run.1 },
  );
  acked = λ id under k word load got waiting p many none h (first, o, answered). (
    first + length (sender.messages_in load),
    open_behind first under got load p o,
    ack_answers (first + length (sender.messages_in load)) got (sent_under p.sent id) h
        (λ put c. sent_before first (sending.Send under load) p o put (under_was_sent p.sent id put c))
        (answered_more first (first + length (sender.messages_in load)) h (omega arith) answered),
  );
  crashes = λ mode waiting p many none h (first, o, answered). (
    p.count,
    open_with_none first mode p o,
    subst (Answered p.count) (sym (deaf mode p.sent h)) (answered_more first p.count h (omega (arith, o.within)) answered),
  );
  recovers = λ waiting p many none h (first, o, answered). (
    first,
    record { within = o.within; waiting = o.waiting; run = o.run },
    answered,
  );
}

-- a sender that sends, and still does behind an ack, was not answered by it
body_no_answer : (s : sender.SenderState) (under : ℕ) (load : Payload) (body : OwnedBody) (id : ℕ) (sent : Payload) → s.mode ≡ sending.Send under load
    → (sender.deliver s body).state.mode ≡ sending.Send id sent → IsOther under body
body_no_answer s under load (packet.Ack other got) id sent is still = by (eqb under other) refl
  where
    ends : (got : Bool) → (sender.cleaning_up (record s { mode = sending.Quiet got }) other got).state.mode ≡ sending.Send id sent → ⊥
    ends true e = cc
    ends false e = cc

    by : (b : Bool) → eqb under other ≡ b → eqb under other ≡ false
    by true same = absurd (ends got (
        subst (λ (b : Bool). (if b then sender.cleaning_up (record s { mode = sending.Quiet got }) other got else sender.cleaning_up s other got).state.mode ≡ sending.Send id sent) same
        (subst (λ (m : SenderMode). (sender.ack s m other got).state.mode ≡ sending.Send id sent) is still)))
    by false same = same
body_no_answer s under load (packet.NeedUid jd) id sent is still = tt
body_no_answer s under load (packet.Accept jd new) id sent is still = tt
body_no_answer s under load (packet.Send under' m) id sent is still = tt
body_no_answer s under load (packet.Cleanup under') id sent is still = tt
body_no_answer s under load (packet.Batch under' b) id sent is still = tt

act_no_answer : (s : sender.SenderState) (under : ℕ) (load : Payload) (a : Act) (id : ℕ) (sent : Payload) → s.mode ≡ sending.Send under load
    → (sender.row s a).state.mode ≡ sending.Send id sent → IsOtherAct under a
act_no_answer s under load (act.Deliver p word) id sent is still = body_no_answer s under load p.body id sent is still
act_no_answer s under load (act.Put m) id sent is still = tt
act_no_answer s under load act.Get id sent is still = tt
act_no_answer s under load act.Ack id sent is still = tt
act_no_answer s under load (act.Start word) id sent is still = tt
act_no_answer s under load (act.Batch word) id sent is still = tt
act_no_answer s under load act.Resend id sent is still = tt
act_no_answer s under load act.Crash id sent is still = tt
act_no_answer s under load act.Recover id sent is still = tt

no_answer : (s : sender.SenderState) (a : Act) (mode now : SenderMode) → s.mode ≡ mode → (sender.row s a).state.mode ≡ now → IsNoAnswer mode now a
no_answer s a (sending.Send under load) (sending.Send id sent) is still = act_no_answer s under load a id sent is still
no_answer s a (sending.Send under load) (sending.Quiet got) is still = tt
no_answer s a (sending.Send under load) (sending.NeedId jd asked) is still = tt
no_answer s a (sending.Send under load) sending.Down is still = tt
no_answer s a (sending.Quiet got) now is still = tt
no_answer s a (sending.NeedId jd load) now is still = tt
no_answer s a sending.Down now is still = tt

-- the receiver's acts change nothing of it
run_same : (first : ℕ) (mode : SenderMode) (p q : Puts) → AreSame p q → HoldsRun first mode p → HoldsRun first mode q
run_same first (sending.Quiet got) p q same run = subst (λ (hs : List Handshake). Before first (all_sent hs)) same.sent run
run_same first sending.Down p q same run = subst (λ (hs : List Handshake). Before first (all_sent hs)) same.sent run
run_same first (sending.NeedId jd load) p q same run = (sym same.carried ∙ run.0, subst (λ (hs : List Handshake). Before first (all_sent hs)) same.sent run.1)
run_same first (sending.Send id load) p q same run = (run.0, sym same.sent ∙ run.1, run.2)

open_same : (mode : SenderMode) (p q : Puts) (h : Heard) → AreSame p q → IsOpen mode p h → IsOpen mode q h
open_same mode p q h same (first, o, answered) = (
  first,
  record {
    within = subst (λ (n : ℕ). first + held mode ≤ n) same.count o.within;
    waiting = sym same.waiting ∙ o.waiting ∙ ap (λ (n : ℕ). range_with_len (first + held mode) (n - (first + held mode))) same.count;
    run = run_same first mode p q same o.run;
  },
  answered,
)

act_open : (s : Stream) (side : End) (a : Act) (p : Puts) (h : Heard) → length p.waiting ≡ length s.sender.state.waiting → IsOpen s.sender.state.mode p h
    → IsOpen (after s side a).sender.state.mode (acted s side a p) (heard_by s side a p h)
act_open s Sender a p h many is =
    by_rows KeepsOpen keeps_open s.sender.state.stream s.sender.state.mode s.sender.state.waiting p a many
    (no_answer s.sender.state a s.sender.state.mode (sender.row s.sender.state a).state.mode refl refl) h is
act_open s Receiver a p h many is = open_same s.sender.state.mode p (acted s Receiver a p) h (receiver_leaves s a p) is

event_open : (here : Bool) (s : Stream) (e : Event) (p : Puts) (h : Heard) → length p.waiting ≡ length s.sender.state.waiting → IsOpen s.sender.state.mode p h
    → IsOpen (after_if here s e).sender.state.mode (acted_if here s e p) (heard_if here s e p h)
event_open true s e p h many is = act_open s e.side e.act p h many is
event_open false s e p h many is = is

open_puts : (number : ℕ) (events : List Event) → IsOpen (stream_after number events).sender.state.mode (puts_after number events) (heard_after number events)
open_puts number [] = (
  0,
  record { within = omega arith; waiting = refl; run = λ put c. absurd (contains_nothing put c) },
  record { got = λ put c. absurd (contains_nothing put c); settled = λ put c. absurd (contains_nothing put c) },
)
open_puts number (e ∷ past) =
    event_open (eqb number e.stream) (stream_after number past) e (puts_after number past) (heard_after number past) (in_order number past).many (open_puts number past)

-- a row of puts, so many behind
moved_range : (many a n : ℕ) → moved many (range_with_len a n) ≡ range_with_len (many + a) n
moved_range many a zero = refl
moved_range many a (suc n) =
    ap (λ (ns : List ℕ). (many + a) ∷ ns) (moved_range many (a + 1) n)
    ∙ ap (λ (k : ℕ). (many + a) ∷ range_with_len k n) (omega arith)

-- none of these puts stands here
no_others : (many : ℕ) (puts' puts : List ℕ) → Before 0 puts' → Before many puts → AreThose many puts' puts
no_others many puts' puts none before put = (
  λ c. let never = none put c in absurd (omega (arith, never)),
  λ c. let less = before (many + put) c in absurd (omega (arith, less)),
)

asks_run : (first : ℕ) (mode : SenderMode) (p : Puts) → OpenFrom first mode p → asking mode p.carried ≡ asking mode (range_with_len first (held mode))
asks_run first (sending.NeedId jd load) p o = o.run.0
asks_run first (sending.Quiet got) p o = refl
asks_run first (sending.Send id load) p o = refl
asks_run first sending.Down p o = refl

asks_moved : (many : ℕ) (mode : SenderMode) (puts : List ℕ) → asking mode (moved many puts) ≡ moved many (asking mode puts)
asks_moved many (sending.NeedId jd load) puts = refl
asks_moved many (sending.Quiet got) puts = refl
asks_moved many (sending.Send id load) puts = refl
asks_moved many sending.Down puts = refl

pub held_unanswered : (mode : SenderMode) → held mode ≡ held (unanswered mode)
held_unanswered (sending.NeedId jd load) = refl
held_unanswered (sending.Quiet got) = refl
held_unanswered (sending.Send id load) = refl
held_unanswered sending.Down = refl

-- what was sent, and travels under each identifier, by the mode
record SentThose (many : ℕ) (p' p : Puts) : Type 0 where
  sent : AreThose many (all_sent p'.sent) (all_sent p.sent)
  under : (id : ℕ) → AreThose many (sent_under p'.sent id) (sent_under p.sent id)

none_sent : (many : ℕ) (p' p : Puts) → Before 0 (all_sent p'.sent) → Before many (all_sent p.sent) → SentThose many p' p
none_sent many p' p none before = record {
  sent = no_others many (all_sent p'.sent) (all_sent p.sent) none before;
  under = λ id. no_others many (sent_under p'.sent id) (sent_under p.sent id) (λ put c. none put (under_was_sent p'.sent id put c)) (λ put c. before put (under_was_sent p.sent id put c));
}

same_sent : (many : ℕ) (mode : SenderMode) (p' p : Puts) → HoldsRun 0 mode p' → HoldsRun many mode p → SentThose many p' p
same_sent many (sending.Quiet got) p' p none before = none_sent many p' p none before
same_sent many sending.Down p' p none before = none_sent many p' p none before
same_sent many (sending.NeedId jd load) p' p none before = none_sent many p' p none.1 before.1
same_sent many (sending.Send id load) p' p (older', is', none) (older, is, before) =
    let count = length (sender.messages_in load) in
    let run : AreThose many (range_with_len 0 count) (range_with_len many count) =
    subst (AreThose many (range_with_len 0 count)) (moved_range many 0 count ∙ ap (λ (k : ℕ). range_with_len k count) (omega arith)) (moved_alike many (range_with_len 0 count)) in
    record {
      sent =
          subst (λ (hs : List Handshake). AreThose many (all_sent hs) (all_sent p.sent)) (sym is')
          (subst (λ (hs : List Handshake). AreThose many (all_sent older' ++ range_with_len 0 count) (all_sent hs)) (sym is)
          (both_alike many (all_sent older') (range_with_len 0 count) (all_sent older) (range_with_len many count) (no_others many (all_sent older') (all_sent older) none before) run));
      under = λ x.
          subst (λ (hs : List Handshake). AreThose many (sent_under hs x) (sent_under p.sent x)) (sym is')
          (subst (λ (hs : List Handshake). AreThose many (if eqb id x then range_with_len 0 count else sent_under older' x) (sent_under hs x)) (sym is)
          (by x run (eqb id x)));
    }
  where
    by : (x : ℕ) → AreThose many (range_with_len 0 (length (sender.messages_in load))) (range_with_len many (length (sender.messages_in load))) → (b : Bool)
        → AreThose many (if b then range_with_len 0 (length (sender.messages_in load)) else sent_under older' x) (if b then range_with_len many (length (sender.messages_in load)) else sent_under older x)
    by x run true = run
    by x run false = no_others many (sent_under older' x) (sent_under older x) (λ put c. none put (under_was_sent older' x put c)) (λ put c. before put (under_was_sent older x put c))

-- the modes are the same, or both senders are at rest
sent_those : (many : ℕ) (mode' mode : SenderMode) (p' p : Puts) → unanswered mode' ≡ unanswered mode → HoldsRun 0 mode' p' → HoldsRun many mode p → SentThose many p' p
sent_those many mode' mode p' p same none before = elim (alike_modes mode' mode same) [
  | inl is ↦ same_sent many mode p' p (subst (λ (m : SenderMode). HoldsRun 0 m p') is none) before
  | inr quiet ↦ none_sent many p' p (subst (λ (m : SenderMode). HoldsRun 0 m p') quiet.2 none) (subst (λ (m : SenderMode). HoldsRun many m p) quiet.3 before)
]

-- a history of the puts without an answer
module _ (number : ℕ) (part whole : List Event)
    (same : unanswered (stream_after number part).sender.state.mode ≡ unanswered (stream_after number whole).sender.state.mode)
    (messages : (stream_after number part).sender.state.waiting ≡ (stream_after number whole).sender.state.waiting)
    (alone : (puts_after number part).count ≡ held (stream_after number part).sender.state.mode + length (stream_after number part).sender.state.waiting) where
  abbrev mode' : SenderMode
  mode' = (stream_after number part).sender.state.mode

  abbrev mode : SenderMode
  mode = (stream_after number whole).sender.state.mode

  abbrev p' : Puts
  p' = puts_after number part

  abbrev p : Puts
  p = puts_after number whole

  mine : IsOpen mode' p' (heard_after number part)
  mine = open_puts number part

  its : IsOpen mode p (heard_after number whole)
  its = open_puts number whole

  abbrev first : ℕ
  first = its.0

  as_many : held mode' ≡ held mode
  as_many = held_unanswered mode' ∙ ap held same ∙ sym (held_unanswered mode)

  long' : length p'.waiting ≡ p'.count - (mine.0 + held mode')
  long' = ap length mine.1.waiting ∙ length-range_with_len (mine.0 + held mode') (p'.count - (mine.0 + held mode'))

  long : length p.waiting ≡ p.count - (first + held mode)
  long = ap length its.1.waiting ∙ length-range_with_len (first + held mode) (p.count - (first + held mode))

  many' : length p'.waiting ≡ length (stream_after number part).sender.state.waiting
  many' = (in_order number part).many

  as_long : length p'.waiting ≡ length p.waiting
  as_long = many' ∙ ap length messages ∙ sym (in_order number whole).many

  from_first : mine.0 ≡ 0
  from_first = let within = mine.1.within in omega (arith, alone, long', many', within)

  opens : OpenFrom 0 mode' p'
  opens = subst (λ (n : ℕ). OpenFrom n mode' p') from_first mine.1

  answered : Answered 0 (heard_after number part)
  answered = subst (λ (n : ℕ). Answered n (heard_after number part)) from_first mine.2

  count : p.count ≡ first + p'.count
  count = let within = its.1.within in omega (arith, within, long, as_long, many', alone, as_many)

  those : SentThose first p' p
  those = sent_those first mode' mode p' p same opens.run its.1.run

  pub open_stands : StandsFor number (p.count - p'.count) part whole
  open_stands = subst (λ (n : ℕ). StandsFor number n part whole) (omega (arith, count)) (record {
    stream = of_number number part ∙ sym (of_number number whole);
    mode = same;
    messages = messages;
    count = count;
    waiting =
        its.1.waiting
        ∙ ap (range_with_len (first + held mode)) (omega (arith, count, as_many))
        ∙ ap (λ (k : ℕ). range_with_len k (p'.count - (0 + held mode'))) (omega (arith, as_many))
        ∙ sym (moved_range first (0 + held mode') (p'.count - (0 + held mode')))
        ∙ ap (moved first) (sym opens.waiting);
    asked =
        asks_run first mode p its.1
        ∙ asking_unanswered mode (range_with_len first (held mode))
        ∙ ap (λ (ns : List ℕ). asking (unanswered mode) ns)
        (ap (range_with_len first) (sym as_many) ∙ ap (λ (k : ℕ). range_with_len k (held mode')) (omega arith) ∙ sym (moved_range first 0 (held mode')))
        ∙ asks_moved first (unanswered mode) (range_with_len 0 (held mode'))
        ∙ ap (λ (m : SenderMode). moved first (asking m (range_with_len 0 (held mode')))) (sym same)
        ∙ ap (moved first) (sym (asking_unanswered mode' (range_with_len 0 (held mode'))) ∙ sym (asks_run 0 mode' p' opens));
    sent = those.sent;
    under = those.under;
    got = no_others first (heard_after number part).got (heard_after number whole).got answered.got its.2.got;
    settled = no_others first (heard_after number part).settled (heard_after number whole).settled answered.settled its.2.settled;
  })

  -- none of these has an answer
  pub none_got : (put : ℕ) → ¬ (HasSenderOutcome number part put Got)
  none_got put has = let never = answered.got put has in omega (arith, never)

  pub none_settled : (put : ℕ) → ¬ (HasSenderOutcome number part put (Unknown true))
  none_settled put has = let never = answered.settled put has.0 in omega (arith, never)
