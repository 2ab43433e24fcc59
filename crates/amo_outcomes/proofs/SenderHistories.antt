-- Whole histories: what a sender heard of its puts is true, and its own events alone tell it.
use Rattle.std.proofs.Common.{◌≡◌, ℕ, ◌<◌, Bool, true, false, eqb, if◌then◌else◌, append_assoc, Option, None, Some, IfSome, List, [], ◌∷◌, ◌++◌, refl, sym, ◌∙◌, subst, inl, inr, ◌⊎◌, arith}
use Rattle.std.specs.List.{Contains}
use Rattle.std.specs.Option.{option_to_list}
use Rattle.std.proofs.lemmas.Bool.Decides.{eqb_tells}
use Rattle.std.proofs.lemmas.List.Elements.{Contains-append_left, Contains-append_right, Contains-append_cases}
use Rattle.amo_object.specs.declared.step.End.{End}
use Rattle.amo_object.specs.declared.step.End.TheVariants.{Sender, Receiver}
use Rattle.amo_object.specs.Delivery.{messages_put}
use Rattle.amo_core.specs.declared.act.Act.{Act}
use Rattle.amo_core.specs.declared.act.Act.TheVariants as act
use Rattle.amo_core.specs.Sender as sender
use Rattle.amo_core.specs.Receiver as receiver
use Rattle.amo_core.specs.declared.sender.SenderMode.{SenderMode}
use Rattle.amo_core.specs.declared.sender.SenderMode.TheVariants as sending
use Rattle.amo_world.specs.declared.event.Event.{Event}
use Rattle.amo_world.specs.Stream.{Stream, after}
use Rattle.amo_world.specs.History.{stream_after, after_if, WasEmitted, IsNewWord, IsRight, IsHonest, IsFresh}
use Rattle.amo_world.specs.Served.{calls}
use Rattle.amo_world.proofs.Lists.{contains_nothing}
use Rattle.amo_world.proofs.Packets.{Any, IsAccept, IsAcceptFor, ack_is_past}
use Rattle.amo_world.proofs.Invariant.{Invariant, SenderFacts}
use Rattle.amo_world.proofs.Serving.{stream_facts}
use Rattle.amo_outcomes.specs.declared.outcome.Outcome.TheVariants as whole
use Rattle.amo_outcomes.specs.declared.sender_outcome.SenderOutcome.TheVariants.{Got, Gone, Unknown}
use Rattle.amo_outcomes.specs.Puts.{Handshake, Puts, sent_under, acted, acted_if, puts_after}
use Rattle.amo_outcomes.specs.Outcome.{arriving, open_in, AreOf, HasOutcome}
use Rattle.amo_outcomes.specs.Heard.{Heard, all_sent, hears, heard_by, heard_if, heard_after}
use Rattle.amo_outcomes.specs.SenderOutcome.{unsent_of, HasSenderOutcome}
use Rattle.amo_outcomes.proofs.Parts.{Rises, rises_part, rises_contains, rises_apart, part_same, part_before, part_behind}
use Rattle.amo_outcomes.proofs.Histories.{Told, told, same_stream}
use Rattle.amo_outcomes.proofs.Final.{stands_or_not}
use Rattle.amo_outcomes.proofs.SenderRows.{by_rows}
use Rattle.amo_outcomes.proofs.SenderOrder.{InOrder, under_was_sent, receiver_leaves, in_order, heard_was_sent}
use Rattle.amo_outcomes.proofs.SenderTruth.{TrueAt, arriving_was_sent, receiver_truth}
use Rattle.amo_outcomes.proofs.SenderHearing.{CameFromReceiver, IsNewFor, AsksNew, CarriesNew, KeepsTruth, keeps_truth, hearing_truth}

-- handshakes carry puts of their own
pub under_apart : (sent : List Handshake) (others : List ℕ) (high id other put : ℕ) → Rises 0 (all_sent sent ++ others) high
    → Contains (sent_under sent id) put → Contains (sent_under sent other) put → id ≡ other
under_apart [] others high id other put rises c d = absurd (contains_nothing put c)
under_apart (s ∷ sent) others high id other put rises c d =
    by (under_apart sent others high id other put old) (eqb_tells s.id id) (eqb_tells s.id other)
  where
    all : Rises 0 (all_sent sent ++ (s.puts ++ others)) high
    all = subst (λ (ns : List ℕ). Rises 0 ns high) (append_assoc (all_sent sent) s.puts others) rises

    old : Rises 0 (all_sent sent ++ others) high
    old = rises_part (part_before (all_sent sent) (part_behind s.puts (part_same others))) 0 high all

    -- none stands in the newest handshake and in an earlier one
    never : Contains s.puts put → Contains (all_sent sent) put → ⊥
    never here there =
        let less : put < put = rises_apart 0 (all_sent sent) (s.puts ++ others) high put put all there
        (Contains-append_left s.puts others put here) in
        omega (arith, less)

    here : (x : ℕ) → eqb s.id x ≡ true → Contains (sent_under (s ∷ sent) x) put → Contains s.puts put
    here x is c = subst (λ (b : Bool). Contains (if b then s.puts else sent_under sent x) put) is c

    there : (x : ℕ) → eqb s.id x ≡ false → Contains (sent_under (s ∷ sent) x) put → Contains (sent_under sent x) put
    there x is c = subst (λ (b : Bool). Contains (if b then s.puts else sent_under sent x) put) is c

    by : (Contains (sent_under sent id) put → Contains (sent_under sent other) put → id ≡ other)
        → ((eqb s.id id ≡ true) × (s.id ≡ id)) ⊎ ((eqb s.id id ≡ false) × (s.id ≡ id → ⊥))
        → ((eqb s.id other ≡ true) × (s.id ≡ other)) ⊎ ((eqb s.id other ≡ false) × (s.id ≡ other → ⊥)) → id ≡ other
    by earlier (inl e) (inl f) = sym e.1 ∙ f.1
    by earlier (inl e) (inr f) = absurd (never (here id e.0 c) (under_was_sent sent other put (there other f.0 d)))
    by earlier (inr e) (inl f) = absurd (never (here other f.0 d) (under_was_sent sent id put (there id e.0 c)))
    by earlier (inr e) (inr f) = earlier (there id e.0 c) (there other f.0 d)

-- what a sender asks for or has waiting it did not send
pub not_sent : (mode : SenderMode) (waiting : List (List ℕ)) (p : Puts) → InOrder mode waiting p → (put : ℕ)
    → Contains (all_sent p.sent) put → Contains (unsent_of mode p) put → ⊥
not_sent mode waiting p o put c d =
    let less : put < put = rises_apart 0 (all_sent p.sent) (unsent_of mode p) p.count put put o.rises c d in
    omega (arith, less)

-- and each of these was put
pub sent_below : (mode : SenderMode) (waiting : List (List ℕ)) (p : Puts) → InOrder mode waiting p → (put : ℕ)
    → Contains (all_sent p.sent) put → put < p.count
sent_below mode waiting p o put c =
    (rises_contains 0 (all_sent p.sent ++ unsent_of mode p) p.count put o.rises
    (Contains-append_left (all_sent p.sent) (unsent_of mode p) put c)).1

pub unsent_below : (mode : SenderMode) (waiting : List (List ℕ)) (p : Puts) → InOrder mode waiting p → (put : ℕ)
    → Contains (unsent_of mode p) put → put < p.count
unsent_below mode waiting p o put c =
    (rises_contains 0 (all_sent p.sent ++ unsent_of mode p) p.count put o.rises
    (Contains-append_right (all_sent p.sent) (unsent_of mode p) put c)).1

-- what a sender heard is true, in a state of the stream
abbrev pub HearsTruth : Stream → Puts → Heard → Type 0
HearsTruth s p h = TrueAt s.sender.state.mode s.receiver.state.mode s.receiver.emitted p.sent p.held p.got h

new_for : (s : Stream) (a : Act) → Invariant s → IsNewWord s Sender a
    → IsNewFor s.sender.state.stream s.receiver.state.mode s.receiver.emitted s.sender.state.mode s.sender.state.waiting a
new_for s a f new = by (sender.used_word s.sender.state a) new
  where
    by : (word : Option ℕ) → IfSome word (λ w. ¬ (Contains s.sender.words w))
        → IfSome word (λ w. (id : ℕ) → Any (IsAcceptFor w id) s.receiver.emitted → ⊥)
    by None new = tt
    by (Some w) new = λ id accept. new (f.needuid_words w (f.packets.asked w id accept))

asks_new : (s : Stream) → Invariant s → AsksNew s.sender.state.stream s.receiver.state.mode s.receiver.emitted s.sender.state.mode
asks_new s f = by s.sender.state.mode f.sender
  where
    by : (mode : SenderMode) → SenderFacts mode s.sender.state.waiting s.receiver.state.mode s.sender.emitted s.receiver.emitted s.untaken
        → AsksNew s.sender.state.stream s.receiver.state.mode s.receiver.emitted mode
    by (sending.Quiet got) facts = tt
    by (sending.NeedId jd load) facts = λ id accept. let u = facts.untouched id accept in
        (λ said ack. u.receiver_not_past (ack_is_past id said s.receiver.emitted ack), u.not_taken)
    by (sending.Send id load) facts = tt
    by sending.Down facts = tt

carries_new : (s : Stream) (p : Puts) → InOrder s.sender.state.mode s.sender.state.waiting p
    → CarriesNew s.sender.state.stream s.receiver.state.mode s.receiver.emitted s.sender.state.mode p
carries_new s p o = by s.sender.state.mode o
  where
    by : (mode : SenderMode) → InOrder mode s.sender.state.waiting p
        → CarriesNew s.sender.state.stream s.receiver.state.mode s.receiver.emitted mode p
    by (sending.Quiet got) o = tt
    by (sending.NeedId jd load) o = λ put c there. not_sent (sending.NeedId jd load) s.sender.state.waiting p o put there
        (Contains-append_left p.carried p.waiting put c)
    by (sending.Send id load) o = tt
    by sending.Down o = tt

came_from_receiver : (s : Stream) (a : Act) → WasEmitted s Sender a
    → CameFromReceiver s.sender.state.stream s.receiver.state.mode s.receiver.emitted a
came_from_receiver s (act.Deliver p word) came = came
came_from_receiver s (act.Put m) came = tt
came_from_receiver s act.Get came = tt
came_from_receiver s act.Ack came = tt
came_from_receiver s (act.Start word) came = tt
came_from_receiver s (act.Batch word) came = tt
came_from_receiver s act.Resend came = tt
came_from_receiver s act.Crash came = tt
came_from_receiver s act.Recover came = tt

-- what holds of a stream before an act
record Before (s : Stream) (p : Puts) : Type 0 where
  pub facts : Invariant s
  pub order : InOrder s.sender.state.mode s.sender.state.waiting p
  pub taken : List (List ℕ)
  pub held_are : AreOf taken p.held (receiver.held_by s.receiver.state.mode)
  pub unsent : (id : ℕ) → (Any (IsAccept id) s.receiver.emitted → ⊥) → sent_under p.sent id ≡ []

act_is_true : (s : Stream) (side : End) (a : Act) (p : Puts) (h : Heard) → Before s p → WasEmitted s side a → IsNewWord s side a
    → HearsTruth s p h → HearsTruth (after s side a) (acted s side a p) (heard_by s side a p h)
act_is_true s Sender a p h b came new t =
    by_rows (KeepsTruth s.sender.state.stream s.receiver.state.mode s.receiver.emitted)
    (keeps_truth s.sender.state.stream s.receiver.state.mode s.receiver.emitted) s.sender.state.stream s.sender.state.mode
    s.sender.state.waiting p a (hears s.sender.state.mode a p.sent h)
    (came_from_receiver s a came) (new_for s a b.facts new) (asks_new s b.facts) (carries_new s p b.order)
    (hearing_truth s.sender.state.stream s.receiver.state.mode s.receiver.emitted s.sender.state.mode p.sent p.held p.got h a t
    (came_from_receiver s a came))
act_is_true s Receiver a p h b came new t =
    subst (λ (sent : List Handshake). TrueAt s.sender.state.mode (receiver.row s.receiver.state a).state.mode
    (option_to_list (receiver.row s.receiver.state a).emitted ++ s.receiver.emitted) sent (acted s Receiver a p).held
    (acted s Receiver a p).got h) (receiver_leaves s a p).sent
    (receiver_truth s.sender.state.mode s.receiver.state.stream p.sent h s.sender.emitted s.receiver.emitted
    (λ id other put. under_apart p.sent (unsent_of s.sender.state.mode p) p.count id other put b.order.rises)
    b.taken s.receiver.state.mode a p refl t b.held_are b.facts.receiver (unused (receiver.used_word s.receiver.state a) new))
  where
    unused : (word : Option ℕ) → IfSome word (λ w. ¬ (Contains s.receiver.words w)) → IfSome word (λ w. sent_under p.sent w ≡ [])
    unused None new = tt
    unused (Some w) new = b.unsent w (λ accept. new (b.facts.accept_words w accept))

-- what a sender heard is true after each history
pub is_true : (number : ℕ) (events : List Event) → IsRight events → IsHonest events → IsFresh events
    → HearsTruth (stream_after number events) (puts_after number events) (heard_after number events)
is_true number [] right honest fresh = record {
  acked = λ id put ack. absurd ack;
  lost = λ id put ack. absurd ack;
  taken = tt;
  asked = tt;
  got_was_sent = λ put c. absurd (contains_nothing put c);
  heard_got = λ put c. c;
  heard_settled = λ put c there. contains_nothing put c;
}
is_true number (e ∷ past) right honest fresh =
    by (eqb number e.stream) (same_stream number e) (is_true number past right.1 honest.1 fresh.1)
  where
    told_before : Told number past
    told_before = told number past right.1 honest.1 fresh.1

    by : (here : Bool) → (here ≡ true → e.stream ≡ number)
        → HearsTruth (stream_after number past) (puts_after number past) (heard_after number past)
        → HearsTruth (after_if here (stream_after number past) e) (acted_if here (stream_after number past) e (puts_after number past))
        (heard_if here (stream_after number past) e (puts_after number past) (heard_after number past))
    by true same before =
        act_is_true (stream_after number past) e.side e.act (puts_after number past) (heard_after number past)
        (record {
          facts = stream_facts number past honest.1 fresh.1;
          order = in_order number past;
          taken = messages_put (calls number past);
          held_are = told_before.ties.held_are;
          unsent = told_before.ties.unsent;
        })
        (subst (λ (n : ℕ). WasEmitted (stream_after n past) e.side e.act) (same refl) honest.0)
        (subst (λ (n : ℕ). IsNewWord (stream_after n past) e.side e.act) (same refl) fresh.0) before
    by false same before = before

-- what is told of a whole history: what a sender says was got, was got; what it says is gone, is gone; and what it says is settled is not open
module _ (number : ℕ) (events : List Event) (right : IsRight events) (honest : IsHonest events) (fresh : IsFresh events) (put : ℕ) where
  abbrev s : Stream
  s = stream_after number events

  abbrev p : Puts
  p = puts_after number events

  truth : HearsTruth (stream_after number events) (puts_after number events) (heard_after number events)
  truth = is_true number events right honest fresh

  pub got_is_true : HasSenderOutcome number events put Got → HasOutcome number events put whole.Got
  got_is_true got = truth.heard_got put got

  pub gone_is_true : HasSenderOutcome number events put Gone → HasOutcome number events put whole.Gone
  gone_is_true gone = (
    gone.0,
    λ got. gone.1 (truth.got_was_sent put got),
    λ awaited. by
        (Contains-append_cases (arriving s.receiver.state.mode p.sent p.held) (unsent_of s.sender.state.mode p) put awaited),
  )
    where
      by : Contains (arriving s.receiver.state.mode p.sent p.held) put ⊎ Contains (unsent_of s.sender.state.mode p) put → ⊥
      by (inl arrives) = gone.1 (arriving_was_sent s.receiver.state.mode p.sent p.held p.got truth.taken put arrives)
      by (inr unsent) = gone.2 unsent

  settled_is_not_open : Contains (heard_after number events).settled put → Contains (open_in (stream_after number events) (puts_after number events)) put → ⊥
  settled_is_not_open settled awaited = by
      (Contains-append_cases (arriving s.receiver.state.mode p.sent p.held) (unsent_of s.sender.state.mode p) put awaited)
    where
      by : Contains (arriving s.receiver.state.mode p.sent p.held) put ⊎ Contains (unsent_of s.sender.state.mode p) put → ⊥
      by (inl arrives) = truth.heard_settled put settled arrives
      by (inr unsent) = not_sent s.sender.state.mode s.sender.state.waiting p (in_order number events) put
          ((heard_was_sent number events).settled put settled) unsent

  pub settled_is_true : HasSenderOutcome number events put (Unknown true)
      → HasOutcome number events put whole.Got ⊎ HasOutcome number events put whole.Gone
  settled_is_true settled = by (stands_or_not (puts_after number events).got put)
    where
      by : Contains (puts_after number events).got put ⊎ (¬ (Contains (puts_after number events).got put))
          → HasOutcome number events put whole.Got ⊎ HasOutcome number events put whole.Gone
      by (inl got) = inl got
      by (inr not_got) = inr (
        sent_below (stream_after number events).sender.state.mode (stream_after number events).sender.state.waiting (puts_after number events)
            (in_order number events) put ((heard_was_sent number events).settled put settled.0),
        not_got,
        settled_is_not_open settled.0,
      )
