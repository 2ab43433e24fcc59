-- A sender's own events alone tell what they tell of its puts, in whatever history they stand.
use Rattle.std.proofs.Common.{◌≡◌, ℕ, ◌<◌, Bool, true, false, ◌&&◌, eqb, Option, Some, List, [], ◌∷◌, ◌++◌, length, take, drop, refl, sym, ◌∙◌, ap, subst, inl, inr, ◌⊎◌}
use Rattle.std.specs.List.{Contains}
use Rattle.std.proofs.lemmas.List.Elements.{Contains-append_right}
use Rattle.amo_object.specs.declared.step.End.{End}
use Rattle.amo_object.specs.declared.step.End.TheVariants.{Sender, Receiver}
use Rattle.amo_core.specs.declared.act.Act.{Act}
use Rattle.amo_core.specs.declared.act.Act.TheVariants as act
use Rattle.amo_core.specs.declared.reply.Reply.{Reply}
use Rattle.amo_core.specs.declared.reply.Reply.TheVariants as reply
use Rattle.amo_core.specs.Sender as sender
use Rattle.amo_core.specs.declared.sender.SenderMode.{SenderMode}
use Rattle.amo_core.specs.declared.sender.SenderMode.TheVariants as sending
use Rattle.amo_world.specs.declared.event.Event.{Event}
use Rattle.amo_world.specs.Stream.{Stream, after}
use Rattle.amo_world.specs.History.{stream_after, after_if, HasRightReply, DeliversEmitted, UsesNewWord, IsRight, IsHonest, IsFresh, Extends, event_if, events_at, is_same_side}
use Rattle.amo_world.proofs.Extensions.{itself, earlier_too}
use Rattle.amo_outcomes.specs.declared.outcome.Outcome.{Outcome}
use Rattle.amo_outcomes.specs.declared.outcome.Outcome.TheVariants as whole
use Rattle.amo_outcomes.specs.declared.sender_outcome.SenderOutcome.{SenderOutcome}
use Rattle.amo_outcomes.specs.declared.sender_outcome.SenderOutcome.TheVariants.{Got, Gone, Open, Unknown}
use Rattle.amo_outcomes.specs.Puts.{Handshake, Puts, called, sender_moved, acted, acted_if, puts_after}
use Rattle.amo_outcomes.specs.Outcome.{arriving, HasOutcome}
use Rattle.amo_outcomes.specs.Heard.{Heard, all_sent, hears, settles, heard_by, heard_if, heard_after}
use Rattle.amo_outcomes.specs.SenderOutcome.{unsent_of, IsOutcome, HasSenderOutcome, GoesOnAtSender}
use Rattle.amo_outcomes.proofs.Final.{stands_or_not, got_is_final, gone_is_final}
use Rattle.amo_outcomes.proofs.SenderOrder.{AreSame, receiver_leaves, in_order, heard_was_sent}
use Rattle.amo_outcomes.proofs.SenderHistories.{not_sent, sent_below, unsent_below, got_is_true, gone_is_true, settled_is_true}

-- all that a sender's own events change
pub record Alone : Type 0 where
  pub state : sender.SenderState
  pub count : ℕ
  pub waiting : List ℕ
  pub carried : List ℕ
  pub sent : List Handshake
  pub heard : Heard

abbrev pub alone_with : sender.SenderState → Puts → Heard → Alone
alone_with s p h = record { state = s; count = p.count; waiting = p.waiting; carried = p.carried; sent = p.sent; heard = h }

abbrev pub alone : ℕ → List Event → Alone
alone number events = alone_with (stream_after number events).sender.state (puts_after number events) (heard_after number events)

-- the puts, of which none is held and none was got
abbrev puts_of : Alone → Puts
puts_of x = record { count = x.count; waiting = x.waiting; carried = x.carried; sent = x.sent; held = []; got = [] }

-- by an act of the sender
abbrev step : Alone → Act → Alone
step x a = (let row = sender.row x.state a in
    alone_with row.state (sender_moved x.state.mode row.state.mode (called a row.reply (puts_of x)))
    (settles x.state.mode row.state.mode x.sent (hears x.state.mode a x.sent x.heard)))

abbrev step_if : Bool → End → Alone → Act → Alone
step_if true Sender x a = step x a
step_if _ _ x a = x

alone_same : (s : sender.SenderState) (p q : Puts) (h : Heard) → AreSame p q → alone_with s p h ≡ alone_with s q h
alone_same s p q h same =
    ap (λ (n : ℕ). alone_with s (record p { count = n }) h) same.count
    ∙ ap (λ (ns : List ℕ). alone_with s (record p { count = q.count; waiting = ns }) h) same.waiting
    ∙ ap (λ (ns : List ℕ). alone_with s (record p { count = q.count; waiting = q.waiting; carried = ns }) h) same.carried
    ∙ ap (λ (hs : List Handshake). alone_with s (record p { count = q.count; waiting = q.waiting; carried = q.carried; sent = hs }) h) same.sent

-- what the sender's own events change does not depend on what is held and what was got
called_same : (a : Act) (r : Option Reply) (p : Puts) → AreSame (called a r p) (called a r (record p { held = []; got = [] }))
called_same (act.Put m) (Some reply.Ok) p = record { count = refl; waiting = refl; carried = refl; sent = refl }
called_same act.Get (Some (reply.Got m)) p = record { count = refl; waiting = refl; carried = refl; sent = refl }
called_same a r p = record { count = refl; waiting = refl; carried = refl; sent = refl }

-- one handshake more
abbrev handshake : ℕ → List ℕ → List Handshake → List Handshake
handshake id puts sent = record { id = id; puts = puts } ∷ sent

moved_same : (mode now : SenderMode) (p q : Puts) → AreSame p q → AreSame (sender_moved mode now p) (sender_moved mode now q)
moved_same (sending.Quiet was) sending.Down p q same = record { count = same.count; waiting = refl; carried = same.carried; sent = same.sent }
moved_same (sending.NeedId old before) sending.Down p q same = record { count = same.count; waiting = refl; carried = same.carried; sent = same.sent }
moved_same (sending.Send under before) sending.Down p q same = record { count = same.count; waiting = refl; carried = same.carried; sent = same.sent }
moved_same sending.Down sending.Down p q same = record { count = same.count; waiting = refl; carried = same.carried; sent = same.sent }
moved_same (sending.Quiet was) (sending.NeedId jd load) p q same = record {
  count = same.count;
  waiting = ap (λ (ns : List ℕ). drop (length (sender.messages_in load)) ns) same.waiting;
  carried = ap (λ (ns : List ℕ). take (length (sender.messages_in load)) ns) same.waiting;
  sent = same.sent;
}
moved_same (sending.NeedId old before) (sending.Send id sent) p q same = record {
  count = same.count;
  waiting = same.waiting;
  carried = same.carried;
  sent =
      ap (λ (ns : List ℕ). handshake id ns p.sent) same.carried
      ∙ ap (λ (hs : List Handshake). handshake id q.carried hs) same.sent;
}
moved_same (sending.Quiet was) now p q same = same
moved_same (sending.NeedId old before) now p q same = same
moved_same (sending.Send under before) now p q same = same
moved_same sending.Down now p q same = same

sender_step : (s : Stream) (a : Act) (p : Puts) (h : Heard)
    → alone_with (after s Sender a).sender.state (acted s Sender a p) (heard_by s Sender a p h)
    ≡ step (alone_with s.sender.state p h) a
sender_step s a p h =
    let row = sender.row s.sender.state a in
    alone_same row.state (acted s Sender a p)
    (sender_moved s.sender.state.mode row.state.mode (called a row.reply (record p { held = []; got = [] })))
    (heard_by s Sender a p h)
    (moved_same s.sender.state.mode row.state.mode (called a row.reply p) (called a row.reply (record p { held = []; got = [] }))
    (called_same a row.reply p))

act_step : (s : Stream) (side : End) (a : Act) (p : Puts) (h : Heard)
    → alone_with (after s side a).sender.state (acted s side a p) (heard_by s side a p h) ≡ step_if true side (alone_with s.sender.state p h) a
act_step s Sender a p h = sender_step s a p h
act_step s Receiver a p h = sym (alone_same s.sender.state p (acted s Receiver a p) h (receiver_leaves s a p))

one_more : (number : ℕ) (e : Event) (past : List Event)
    → alone number (e ∷ past) ≡ step_if (eqb number e.stream) e.side (alone number past) e.act
one_more number e past = by (eqb number e.stream)
  where
    by : (here : Bool)
        → alone_with (after_if here (stream_after number past) e).sender.state
        (acted_if here (stream_after number past) e (puts_after number past))
        (heard_if here (stream_after number past) e (puts_after number past) (heard_after number past))
        ≡ step_if here e.side (alone number past) e.act
    by true = act_step (stream_after number past) e.side e.act (puts_after number past) (heard_after number past)
    by false = refl

-- the sender's own events alone
by_sender : (number : ℕ) (events : List Event) → alone number events ≡ alone number (events_at number Sender events)
by_sender number [] = refl
by_sender number (e ∷ past) =
    one_more number e past
    ∙ ap (λ (x : Alone). step_if (eqb number e.stream) e.side x e.act) (by_sender number past)
    ∙ chosen (eqb number e.stream) e.side refl refl
  where
    chosen : (here : Bool) (side : End) → here ≡ eqb number e.stream → side ≡ e.side
        → step_if here side (alone number (events_at number Sender past)) e.act
        ≡ alone number (event_if (here && is_same_side Sender side) e (events_at number Sender past))
    chosen true Sender here same =
        ap (λ (b : Bool). step_if b Sender (alone number (events_at number Sender past)) e.act) here
        ∙ ap (λ (side : End). step_if (eqb number e.stream) side (alone number (events_at number Sender past)) e.act) same
        ∙ sym (one_more number e (events_at number Sender past))
    chosen true Receiver here same = refl
    chosen false Sender here same = refl
    chosen false Receiver here same = refl

pub same_alone : (number : ℕ) (one other : List Event) → events_at number Sender one ≡ events_at number Sender other
    → alone number one ≡ alone number other
same_alone number one other same = by_sender number one ∙ ap (alone number) same ∙ sym (by_sender number other)

abbrev OutcomeOf : Alone → ℕ → SenderOutcome → Type 0
OutcomeOf x put outcome = IsOutcome x.state.mode (puts_of x) x.heard put outcome

told_alone : (number : ℕ) (events : List Event) (put : ℕ) (outcome : SenderOutcome) → HasSenderOutcome number events put outcome
    → OutcomeOf (alone number events) put outcome
told_alone number events put Got has = has
told_alone number events put Gone has = has
told_alone number events put Open has = has
told_alone number events put (Unknown true) has = has
told_alone number events put (Unknown false) has = has

alone_told : (number : ℕ) (events : List Event) (put : ℕ) (outcome : SenderOutcome) → OutcomeOf (alone number events) put outcome
    → HasSenderOutcome number events put outcome
alone_told number events put Got has = has
alone_told number events put Gone has = has
alone_told number events put Open has = has
alone_told number events put (Unknown true) has = has
alone_told number events put (Unknown false) has = has

-- so a put has the same outcome wherever the sender's own events are the same
pub same_outcome : (number : ℕ) (one other : List Event) (put : ℕ) (outcome : SenderOutcome)
    → events_at number Sender one ≡ events_at number Sender other
    → HasSenderOutcome number one put outcome → HasSenderOutcome number other put outcome
same_outcome number one other put outcome same has =
    alone_told number other put outcome
    (subst (λ (x : Alone). OutcomeOf x put outcome) (same_alone number one other same) (told_alone number one put outcome has))

-- a history goes on from one in which the sender had these events alone
cut : (number : ℕ) (later newer es : List Event) → events_at number Sender later ≡ newer ++ es
    → (mid : List Event) × Extends later mid × (events_at number Sender mid ≡ es)
cut number later [] es is = (later, itself later, is)
cut number [] (x ∷ newer) es is = absurd (nothing is)
  where
    nothing : [] ≡ x ∷ (newer ++ es) → ⊥
    nothing e = cc
cut number (e ∷ past) (x ∷ newer) es is =
    by (eqb number e.stream && is_same_side Sender e.side) (cut number past newer es) (cut number past (x ∷ newer) es) is
  where
    longer : (mid : List Event) × Extends past mid × (events_at number Sender mid ≡ es)
        → (mid : List Event) × Extends (e ∷ past) mid × (events_at number Sender mid ≡ es)
    longer (mid, extends, same) = (mid, (e ∷ extends.0, ap (λ (events : List Event). e ∷ events) extends.1), same)

    by : (here : Bool)
        → (events_at number Sender past ≡ newer ++ es → (mid : List Event) × Extends past mid × (events_at number Sender mid ≡ es))
        → (events_at number Sender past ≡ x ∷ (newer ++ es) → (mid : List Event) × Extends past mid × (events_at number Sender mid ≡ es))
        → event_if here e (events_at number Sender past) ≡ x ∷ (newer ++ es)
        → (mid : List Event) × Extends (e ∷ past) mid × (events_at number Sender mid ≡ es)
    by true fewer as_many is = longer (fewer cc)
    by false fewer as_many is = longer (as_many is)

module _ (number : ℕ) (journal later : List Event) (put : ℕ) (on : GoesOnAtSender number later journal)
    (right : IsRight later) (honest : IsHonest later) (fresh : IsFresh later) where
  -- the history in which the sender had the journal's events alone
  begun : (mid : List Event) × Extends later mid × (events_at number Sender mid ≡ events_at number Sender journal)
  begun = cut number later on.0 (events_at number Sender journal) on.1

  there : (outcome : SenderOutcome) → HasSenderOutcome number journal put outcome → HasSenderOutcome number begun.0 put outcome
  there outcome has = same_outcome number journal begun.0 put outcome (sym begun.2) has

  right_there : IsRight begun.0
  right_there = earlier_too HasRightReply later begun.0 begun.1 right

  honest_there : IsHonest begun.0
  honest_there = earlier_too DeliversEmitted later begun.0 begun.1 honest

  fresh_there : IsFresh begun.0
  fresh_there = earlier_too UsesNewWord later begun.0 begun.1 fresh

  pub got_of_sender : HasSenderOutcome number journal put Got → HasOutcome number later put whole.Got
  got_of_sender has =
      got_is_final number later begun.0 begun.1 right honest fresh put
      (got_is_true number begun.0 right_there honest_there fresh_there put (there Got has))

  pub gone_of_sender : HasSenderOutcome number journal put Gone → HasOutcome number later put whole.Gone
  gone_of_sender has =
      gone_is_final number later begun.0 begun.1 right honest fresh put
      (gone_is_true number begun.0 right_there honest_there fresh_there put (there Gone has))

  pub settled_of_sender : HasSenderOutcome number journal put (Unknown true)
      → HasOutcome number later put whole.Got ⊎ HasOutcome number later put whole.Gone
  settled_of_sender has =
      by (settled_is_true number begun.0 right_there honest_there fresh_there put (there (Unknown true) has))
    where
      by : HasOutcome number begun.0 put whole.Got ⊎ HasOutcome number begun.0 put whole.Gone
          → HasOutcome number later put whole.Got ⊎ HasOutcome number later put whole.Gone
      by (inl got) = inl (got_is_final number later begun.0 begun.1 right honest fresh put got)
      by (inr gone) = inr (gone_is_final number later begun.0 begun.1 right honest fresh put gone)

-- what is settled has one outcome, got or gone, in all that goes on
pub settled_for_good : (number : ℕ) (journal events : List Event) (put : ℕ) → GoesOnAtSender number events journal
    → IsRight events → IsHonest events → IsFresh events → HasSenderOutcome number journal put (Unknown true)
    → (outcome : Outcome) × (¬ (outcome ≡ whole.Open)) × ((later : List Event) → Extends later events → IsRight later → IsHonest later
    → IsFresh later → HasOutcome number later put outcome)
settled_for_good number journal events put on right honest fresh has =
    by (settled_of_sender number journal events put on right honest fresh has)
  where
    by : HasOutcome number events put whole.Got ⊎ HasOutcome number events put whole.Gone
        → (outcome : Outcome) × (¬ (outcome ≡ whole.Open)) × ((later : List Event) → Extends later events → IsRight later → IsHonest later
        → IsFresh later → HasOutcome number later put outcome)
    by (inl got) = (whole.Got, λ same. cc, λ later extends right honest fresh. got_is_final number later events extends right honest fresh put got)
    by (inr gone) = (whole.Gone, λ same. cc, λ later extends right honest fresh. gone_is_final number later events extends right honest fresh put gone)

-- what is open by the sender's own events is open where they are all that happened there
pub open_of_sender : (number : ℕ) (journal events : List Event) (put : ℕ) → events_at number Sender events ≡ events_at number Sender journal
    → HasSenderOutcome number journal put Open → HasOutcome number events put whole.Open
open_of_sender number journal events put same has =
    let s = stream_after number events in
    let p = puts_after number events in
    Contains-append_right (arriving s.receiver.state.mode p.sent p.held) (unsent_of s.sender.state.mode p) put
    (same_outcome number journal events put Open (sym same) has)

module _ (number : ℕ) (events : List Event) (put : ℕ) where
  abbrev mode : SenderMode
  mode = (stream_after number events).sender.state.mode

  abbrev p : Puts
  p = puts_after number events

  abbrev heard : Heard
  heard = heard_after number events

  -- each put has an outcome
  pub some_sender_outcome : put < (puts_after number events).count → (outcome : SenderOutcome) × HasSenderOutcome number events put outcome
  some_sender_outcome less = elim (stands_or_not heard.got put) [
    | inl got ↦ (Got, got)
    | inr not_got ↦ elim (stands_or_not heard.settled put) [
      | inl settled ↦ (Unknown true, (settled, not_got))
      | inr not_settled ↦ elim (stands_or_not (all_sent p.sent) put) [
        | inl sent ↦ (Unknown false, (sent, not_settled, not_got))
        | inr not_sent ↦ elim (stands_or_not (unsent_of mode p) put) [
          | inl unsent ↦ (Open, unsent)
          | inr not_unsent ↦ (Gone, (less, not_sent, not_unsent))
        ]
      ]
    ]
  ]

  sent_or_not : Contains (all_sent p.sent) put → Contains (unsent_of mode p) put → ⊥
  sent_or_not sent unsent =
      not_sent mode (stream_after number events).sender.state.waiting p (in_order number events) put sent unsent

  got_sent : Contains heard.got put → Contains (all_sent p.sent) put
  got_sent = (heard_was_sent number events).got put

  settled_sent : Contains heard.settled put → Contains (all_sent p.sent) put
  settled_sent = (heard_was_sent number events).settled put

  -- one alone
  pub no_other_of_sender : (one other : SenderOutcome) → HasSenderOutcome number events put one → HasSenderOutcome number events put other
      → one ≡ other
  no_other_of_sender Got Got a b = refl
  no_other_of_sender Got Gone a b = absurd (b.1 (got_sent a))
  no_other_of_sender Got Open a b = absurd (sent_or_not (got_sent a) b)
  no_other_of_sender Got (Unknown true) a b = absurd (b.1 a)
  no_other_of_sender Got (Unknown false) a b = absurd (b.2 a)
  no_other_of_sender Gone Got a b = absurd (a.1 (got_sent b))
  no_other_of_sender Gone Gone a b = refl
  no_other_of_sender Gone Open a b = absurd (a.2 b)
  no_other_of_sender Gone (Unknown true) a b = absurd (a.1 (settled_sent b.0))
  no_other_of_sender Gone (Unknown false) a b = absurd (a.1 b.0)
  no_other_of_sender Open Got a b = absurd (sent_or_not (got_sent b) a)
  no_other_of_sender Open Gone a b = absurd (b.2 a)
  no_other_of_sender Open Open a b = refl
  no_other_of_sender Open (Unknown true) a b = absurd (sent_or_not (settled_sent b.0) a)
  no_other_of_sender Open (Unknown false) a b = absurd (sent_or_not b.0 a)
  no_other_of_sender (Unknown true) Got a b = absurd (a.1 b)
  no_other_of_sender (Unknown true) Gone a b = absurd (b.1 (settled_sent a.0))
  no_other_of_sender (Unknown true) Open a b = absurd (sent_or_not (settled_sent a.0) b)
  no_other_of_sender (Unknown true) (Unknown true) a b = refl
  no_other_of_sender (Unknown true) (Unknown false) a b = absurd (b.1 a.0)
  no_other_of_sender (Unknown false) Got a b = absurd (a.2 b)
  no_other_of_sender (Unknown false) Gone a b = absurd (b.1 a.0)
  no_other_of_sender (Unknown false) Open a b = absurd (sent_or_not a.0 b)
  no_other_of_sender (Unknown false) (Unknown true) a b = absurd (a.1 b.0)
  no_other_of_sender (Unknown false) (Unknown false) a b = refl

  below : Contains (all_sent p.sent) put → put < (puts_after number events).count
  below = sent_below mode (stream_after number events).sender.state.waiting p (in_order number events) put

  pub of_puts_of_sender : (outcome : SenderOutcome) → HasSenderOutcome number events put outcome → put < (puts_after number events).count
  of_puts_of_sender Got has = below (got_sent has)
  of_puts_of_sender Gone has = has.0
  of_puts_of_sender Open has = unsent_below mode (stream_after number events).sender.state.waiting p (in_order number events) put has
  of_puts_of_sender (Unknown true) has = below (settled_sent has.0)
  of_puts_of_sender (Unknown false) has = below has.0
