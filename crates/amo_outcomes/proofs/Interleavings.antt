-- Outcomes are the same however the events of both sides are interleaved.
use Rattle.std.proofs.Common.{◌≡◌, ℕ, ◌<◌, Bool, true, false, ◌&&◌, eqb, Option, Some, List, [], ◌∷◌, ◌++◌, take, drop, refl, sym, ◌∙◌, ap, subst, inl, inr}
use Rattle.std.specs.List.{Contains}
use Rattle.std.specs.Option.{option_to_list}
use Rattle.std.proofs.lemmas.Bool.Decides.{eqb_tells}
use Rattle.amo_object.specs.declared.step.End.{End}
use Rattle.amo_object.specs.declared.step.End.TheVariants.{Sender, Receiver}
use Rattle.amo_packet.specs.declared.packet.OwnedPacket.{OwnedPacket}
use Rattle.amo_packet.specs.declared.packet.OwnedBody.{OwnedBody}
use Rattle.amo_packet.specs.declared.packet.OwnedBody.TheVariants as packet
use Rattle.amo_packet.specs.Batch.{Batch, messages}
use Rattle.amo_packet.specs.Batch as batch
use Rattle.amo_core.specs.declared.act.Act.{Act}
use Rattle.amo_core.specs.declared.act.Act.TheVariants as act
use Rattle.amo_core.specs.declared.reply.Reply.{Reply}
use Rattle.amo_core.specs.declared.reply.Reply.TheVariants as reply
use Rattle.amo_core.specs.Sender as sender
use Rattle.amo_core.specs.Receiver as receiver
use Rattle.amo_core.specs.declared.receiver.ReceiverMode.{ReceiverMode}
use Rattle.amo_core.specs.declared.receiver.ReceiverMode.TheVariants as receiving
use Rattle.amo_world.specs.declared.event.Event.{Event}
use Rattle.amo_world.specs.Stream.{Stream, after}
use Rattle.amo_world.specs.History.{stream_after, after_if, WasEmitted, IsHonest, IsFresh, event_if, events_at, is_same_side}
use Rattle.amo_world.proofs.Packets.{Any, IsAcceptFor, IsSend, any-contains, send_is_past}
use Rattle.amo_world.proofs.Invariant.{Invariant, SenderFacts}
use Rattle.amo_world.proofs.Serving.{stream_facts}
use Rattle.amo_outcomes.specs.declared.outcome.Outcome.{Outcome}
use Rattle.amo_outcomes.specs.declared.outcome.Outcome.TheVariants.{Got, Gone, Open}
use Rattle.amo_outcomes.specs.Puts.{Handshake, Puts, none, sent_under, called, receiver_moved, acted, acted_if, puts_after}
use Rattle.amo_outcomes.specs.Outcome.{open_of, HasOutcome}
use Rattle.amo_outcomes.proofs.Histories.{same_stream}
use Rattle.amo_outcomes.proofs.SenderRows.{OfRows, HoldOfChanges, by_rows}
use Rattle.amo_outcomes.proofs.SenderOrder.{receiver_leaves}
use Rattle.amo_outcomes.proofs.SenderAlone.{Alone, alone, same_alone}

-- under an identifier under which messages were sent, the same puts travel after a row of the sender's table
abbrev KeepsUnder : Stream → OfRows
KeepsUnder s mode waiting p a r now left q =
    SenderFacts mode waiting s.receiver.state.mode s.sender.emitted s.receiver.emitted s.untaken → WasEmitted s Sender a
    → (id : ℕ) (ms : List (List ℕ)) → Any (IsSend id ms) s.sender.emitted → sent_under q.sent id ≡ sent_under p.sent id

keeps_under : (s : Stream) → HoldOfChanges (KeepsUnder s)
keeps_under s = record {
  stays = λ mode waiting p a r up same facts came id ms was. refl;
  stays_down = λ waiting p a r facts came id ms was. refl;
  puts = λ mode waiting p m up facts came id ms was. refl;
  starts = λ got m rest word p facts came id ms was. refl;
  starts_batch = λ got m rest word p facts came id ms was. refl;
  sends = λ asked jd under k word load waiting p same facts came id ms was. elim (eqb_tells under id) [
    | inl h ↦ let accept = any-contains (IsAcceptFor asked under) s.receiver.emitted
        (record { stream = k; body = packet.Accept jd under }) came (sym same, refl) in
        absurd ((facts.untouched under accept).sender_not_past
        (send_is_past under ms s.sender.emitted (subst (λ (x : ℕ). Any (IsSend x ms) s.sender.emitted) (sym h.1) was)))
    | inr h ↦ rw h.0 refl
  ];
  acked = λ under other k word load got waiting p facts came id ms was. refl;
  crashes = λ mode waiting p facts came id ms was. refl;
  recovers = λ waiting p facts came id ms was. refl;
}

act_keeps_under : (s : Stream) (side : End) (a : Act) (p : Puts) → Invariant s → WasEmitted s side a
    → (id : ℕ) (ms : List (List ℕ)) → Any (IsSend id ms) s.sender.emitted
    → sent_under (acted s side a p).sent id ≡ sent_under p.sent id
act_keeps_under s Sender a p f came id ms was =
    by_rows (KeepsUnder s) (keeps_under s) s.sender.state.stream s.sender.state.mode s.sender.state.waiting p a f.sender came id ms was
act_keeps_under s Receiver a p f came id ms was =
    ap (λ (sent : List Handshake). sent_under sent id) (sym (receiver_leaves s a p).sent)

-- what was sent was sent after more acts too
any_behind : (P : OwnedBody → Type 0) (more ps : List OwnedPacket) → Any P ps → Any P (more ++ ps)
any_behind P [] ps any = any
any_behind P (p ∷ more) ps any = inr (any_behind P more ps any)

still_sent : (s : Stream) (side : End) (a : Act) (P : OwnedBody → Type 0) → Any P s.sender.emitted → Any P (after s side a).sender.emitted
still_sent s Sender a P any = any_behind P (option_to_list (sender.row s.sender.state a).emitted) s.sender.emitted any
still_sent s Receiver a P any = any

-- the sender leaves what is held and what was got
record AreHeld (p q : Puts) : Type 0 where
  held : p.held ≡ q.held
  got : p.got ≡ q.got

abbrev LeavesHeld : OfRows
LeavesHeld mode waiting p a r now left q = AreHeld q p

leaves_held : HoldOfChanges LeavesHeld
leaves_held = record {
  stays = λ mode waiting p a r up same. record { held = refl; got = refl };
  stays_down = λ waiting p a r. record { held = refl; got = refl };
  puts = λ mode waiting p m up. record { held = refl; got = refl };
  starts = λ got m rest word p. record { held = refl; got = refl };
  starts_batch = λ got m rest word p. record { held = refl; got = refl };
  sends = λ asked jd under k word load waiting p same. record { held = refl; got = refl };
  acked = λ under other k word load got waiting p. record { held = refl; got = refl };
  crashes = λ mode waiting p. record { held = refl; got = refl };
  recovers = λ waiting p. record { held = refl; got = refl };
}

-- all that a receiver's own events change
record Receipt : Type 0 where
  state : receiver.ReceiverState
  held : List ℕ
  got : List ℕ

abbrev receipt_with : receiver.ReceiverState → Puts → Receipt
receipt_with s p = record { state = s; held = p.held; got = p.got }

abbrev receipt : ℕ → List Event → Receipt
receipt number events = receipt_with (stream_after number events).receiver.state (puts_after number events)

-- the puts, of which these travel, and none waits
abbrev puts_of : List Handshake → Receipt → Puts
puts_of sent y = record { count = 0; waiting = []; carried = []; sent = sent; held = y.held; got = y.got }

-- by an act of the receiver, where these handshakes came to an identifier
abbrev step : List Handshake → Receipt → Act → Receipt
step sent y a = (let row = receiver.row y.state a in
    receipt_with row.state (receiver_moved y.state.mode row.state.mode (called a row.reply (puts_of sent y))))

abbrev step_if : Bool → End → List Handshake → Receipt → Act → Receipt
step_if true Receiver sent y a = step sent y a
step_if _ _ sent y a = y

-- by all of them
abbrev received : ℕ → List Handshake → List Event → Receipt
received number sent [] = receipt_with (receiver.initial number) none
received number sent (e ∷ past) = step sent (received number sent past) e.act

receipt_same : (s : receiver.ReceiverState) (p q : Puts) → AreHeld p q → receipt_with s p ≡ receipt_with s q
receipt_same s p q same =
    ap (λ (ns : List ℕ). receipt_with s (record p { held = ns })) same.held
    ∙ ap (λ (ns : List ℕ). receipt_with s (record q { got = ns })) same.got

called_same : (a : Act) (r : Option Reply) (p q : Puts) → AreHeld p q → AreHeld (called a r p) (called a r q)
called_same (act.Put m) (Some reply.Ok) p q same = record { held = same.held; got = same.got }
called_same act.Get (Some (reply.Got m)) p q same = record {
  held = ap (λ (ns : List ℕ). drop 1 ns) same.held;
  got = ap (λ (ns : List ℕ). p.got ++ take 1 ns) same.held ∙ ap (λ (ns : List ℕ). ns ++ take 1 q.held) same.got;
}
called_same a r p q same = same

called_sent : (a : Act) (r : Option Reply) (p : Puts) → (called a r p).sent ≡ p.sent
called_sent (act.Put m) (Some reply.Ok) p = refl
called_sent act.Get (Some (reply.Got m)) p = refl
called_sent a r p = refl

-- this holds of the identifier under which a receiver takes what came, if it does
abbrev Takes : (ℕ → Type 0) → ReceiverMode → ReceiverMode → Type 0
Takes P (receiving.Accept jd accepted) (receiving.Rcvd id b) = P id
Takes P _ _ = Unit {0}

moved_same : (at now : ReceiverMode) (p q : Puts) → AreHeld p q → Takes (λ id. sent_under p.sent id ≡ sent_under q.sent id) at now
    → AreHeld (receiver_moved at now p) (receiver_moved at now q)
moved_same receiving.Idle receiving.Down p q same takes = record { held = refl; got = same.got }
moved_same (receiving.Accept jd accepted) receiving.Down p q same takes = record { held = refl; got = same.got }
moved_same (receiving.Rcvd under held) receiving.Down p q same takes = record { held = refl; got = same.got }
moved_same (receiving.Ack under) receiving.Down p q same takes = record { held = refl; got = same.got }
moved_same receiving.Down receiving.Down p q same takes = record { held = refl; got = same.got }
moved_same (receiving.Accept jd accepted) (receiving.Rcvd id b) p q same takes = record { held = takes; got = same.got }
moved_same receiving.Idle now p q same takes = same
moved_same (receiving.Accept jd accepted) now p q same takes = same
moved_same (receiving.Rcvd under held) now p q same takes = same
moved_same (receiving.Ack under) now p q same takes = same
moved_same receiving.Down now p q same takes = same

-- what a receiver takes under an identifier was sent under it
module _ (s : Stream) (P : ℕ → Type 0) (sent : (id : ℕ) (ms : List (List ℕ)) → Any (IsSend id ms) s.sender.emitted → P id) where
  abbrev state : ReceiverMode → receiver.ReceiverState
  state at = record { stream = s.receiver.state.stream; mode = at }

  takes_batch : (jd accepted id : ℕ) (b : Batch) → P id
      → Takes P (receiving.Accept jd accepted) (receiver.batch (state (receiving.Accept jd accepted)) (receiving.Accept jd accepted) id b).state.mode
  takes_batch jd accepted id b is = elim (eqb_tells accepted id) [
    | inl h ↦ rw h.0 is
    | inr h ↦ rw h.0 tt
  ]

  takes_delivery : (jd accepted : ℕ) (body : OwnedBody) (word : ℕ)
      → ((Q : OwnedBody → Type 0) → Q body → Any Q s.sender.emitted)
      → Takes P (receiving.Accept jd accepted) (receiver.deliver (state (receiving.Accept jd accepted)) body word).state.mode
  takes_delivery jd accepted (packet.NeedUid asked) word said = elim (eqb_tells jd asked) [
    | inl h ↦ rw h.0 tt
    | inr h ↦ rw h.0 tt
  ]
  takes_delivery jd accepted (packet.Accept asked id) word said = tt
  takes_delivery jd accepted (packet.Send id m) word said =
      takes_batch jd accepted id (batch.alone m) (sent id (m ∷ []) (said (IsSend id (m ∷ [])) (refl, refl)))
  takes_delivery jd accepted (packet.Ack id got) word said = tt
  takes_delivery jd accepted (packet.Cleanup id) word said = elim (eqb_tells accepted id) [
    | inl h ↦ rw h.0 tt
    | inr h ↦ rw h.0 tt
  ]
  takes_delivery jd accepted (packet.Batch id b) word said =
      takes_batch jd accepted id b (sent id (messages b) (said (IsSend id (messages b)) (refl, refl)))

  takes_sent : (at : ReceiverMode) (a : Act) → WasEmitted s Receiver a → Takes P at (receiver.row (state at) a).state.mode
  takes_sent receiving.Idle a came = tt
  takes_sent (receiving.Rcvd under held) a came = tt
  takes_sent (receiving.Ack under) a came = tt
  takes_sent receiving.Down a came = tt
  takes_sent (receiving.Accept jd accepted) (act.Put m) came = tt
  takes_sent (receiving.Accept jd accepted) act.Get came = tt
  takes_sent (receiving.Accept jd accepted) act.Ack came = tt
  takes_sent (receiving.Accept jd accepted) (act.Start word) came = tt
  takes_sent (receiving.Accept jd accepted) (act.Batch word) came = tt
  takes_sent (receiving.Accept jd accepted) act.Resend came = tt
  takes_sent (receiving.Accept jd accepted) (act.Deliver p word) came =
      takes_delivery jd accepted p.body word (λ Q is. any-contains Q s.sender.emitted p came is)
  takes_sent (receiving.Accept jd accepted) act.Crash came = tt
  takes_sent (receiving.Accept jd accepted) act.Recover came = tt

-- where something was sent, the same puts travel by these handshakes
abbrev Agrees : List Handshake → Stream → Puts → Type 0
Agrees sent s p = (id : ℕ) (ms : List (List ℕ)) → Any (IsSend id ms) s.sender.emitted → sent_under p.sent id ≡ sent_under sent id

agrees_before : (sent : List Handshake) (s : Stream) (side : End) (a : Act) (p : Puts) → Invariant s → WasEmitted s side a
    → Agrees sent (after s side a) (acted s side a p) → Agrees sent s p
agrees_before sent s side a p f came agrees id ms was =
    sym (act_keeps_under s side a p f came id ms was) ∙ agrees id ms (still_sent s side a (IsSend id ms) was)

-- so it does not matter when these came to their identifiers
act_step : (sent : List Handshake) (s : Stream) (side : End) (a : Act) (p : Puts) → WasEmitted s side a → Agrees sent s p
    → receipt_with (after s side a).receiver.state (acted s side a p) ≡ step_if true side sent (receipt_with s.receiver.state p) a
act_step sent s Sender a p came agrees =
    receipt_same s.receiver.state (acted s Sender a p) p
    (by_rows LeavesHeld leaves_held s.sender.state.stream s.sender.state.mode s.sender.state.waiting p a)
act_step sent s Receiver a p came agrees =
    let row = receiver.row s.receiver.state a in
    let q = puts_of sent (receipt_with s.receiver.state p) in
    receipt_same row.state (acted s Receiver a p) (receiver_moved s.receiver.state.mode row.state.mode (called a row.reply q))
    (moved_same s.receiver.state.mode row.state.mode (called a row.reply p) (called a row.reply q)
    (called_same a row.reply p q (record { held = refl; got = refl }))
    (takes_sent s (λ id. sent_under (called a row.reply p).sent id ≡ sent_under (called a row.reply q).sent id)
    (λ id ms was. ap (λ (hs : List Handshake). sent_under hs id) (called_sent a row.reply p) ∙ agrees id ms was
    ∙ ap (λ (hs : List Handshake). sent_under hs id) (sym (called_sent a row.reply q)))
    s.receiver.state.mode a came))

module _ (number : ℕ) (sent : List Handshake) where
  abbrev AgreesAfter : List Event → Type 0
  AgreesAfter events = Agrees sent (stream_after number events) (puts_after number events)

  -- one event more
  module _ (e : Event) (past : List Event) (honest : IsHonest (e ∷ past)) (fresh : IsFresh (e ∷ past)) where
    came : eqb number e.stream ≡ true → WasEmitted (stream_after number past) e.side e.act
    came here = subst (λ (n : ℕ). WasEmitted (stream_after n past) e.side e.act) (same_stream number e here) honest.0

    earlier : AgreesAfter (e ∷ past) → AgreesAfter past
    earlier = by (eqb number e.stream) came
      where
        by : (here : Bool) → (here ≡ true → WasEmitted (stream_after number past) e.side e.act)
            → Agrees sent (after_if here (stream_after number past) e) (acted_if here (stream_after number past) e (puts_after number past))
            → AgreesAfter past
        by true came agrees =
            agrees_before sent (stream_after number past) e.side e.act (puts_after number past)
            (stream_facts number past honest.1 fresh.1) (came refl) agrees
        by false came agrees = agrees

    one_more : AgreesAfter past
        → receipt number (e ∷ past) ≡ step_if (eqb number e.stream) e.side sent (receipt number past) e.act
    one_more agrees = by (eqb number e.stream) came
      where
        by : (here : Bool) → (here ≡ true → WasEmitted (stream_after number past) e.side e.act)
            → receipt_with (after_if here (stream_after number past) e).receiver.state
            (acted_if here (stream_after number past) e (puts_after number past))
            ≡ step_if here e.side sent (receipt number past) e.act
        by true came = act_step sent (stream_after number past) e.side e.act (puts_after number past) (came refl) agrees
        by false came = refl

  -- the receiver's own events alone, where it is known which puts travel
  by_receiver : (events : List Event) → IsHonest events → IsFresh events → AgreesAfter events
      → receipt number events ≡ received number sent (events_at number Receiver events)
  by_receiver [] honest fresh agrees = refl
  by_receiver (e ∷ past) honest fresh agrees =
      let before = earlier e past honest fresh agrees in
      one_more e past honest fresh before
      ∙ ap (λ (y : Receipt). step_if (eqb number e.stream) e.side sent y e.act) (by_receiver past honest.1 fresh.1 before)
      ∙ chosen (eqb number e.stream) e.side
    where
      chosen : (here : Bool) (side : End)
          → step_if here side sent (received number sent (events_at number Receiver past)) e.act
          ≡ received number sent (event_if (here && is_same_side Receiver side) e (events_at number Receiver past))
      chosen true Sender = refl
      chosen true Receiver = refl
      chosen false Sender = refl
      chosen false Receiver = refl

-- both sides' own events
abbrev both : Alone → Receipt → Puts
both x y = record { count = x.count; waiting = x.waiting; carried = x.carried; sent = x.sent; held = y.held; got = y.got }

abbrev OutcomeOf : Alone → Receipt → ℕ → Outcome → Type 0
OutcomeOf x y put Got = Contains y.got put
OutcomeOf x y put Open = Contains (open_of x.state.mode y.state.mode (both x y)) put
OutcomeOf x y put Gone = (put < x.count) × (¬ (Contains y.got put)) × (¬ (Contains (open_of x.state.mode y.state.mode (both x y)) put))

told_both : (number : ℕ) (events : List Event) (put : ℕ) (outcome : Outcome) → HasOutcome number events put outcome
    → OutcomeOf (alone number events) (receipt number events) put outcome
told_both number events put Got has = has
told_both number events put Gone has = has
told_both number events put Open has = has

both_told : (number : ℕ) (events : List Event) (put : ℕ) (outcome : Outcome)
    → OutcomeOf (alone number events) (receipt number events) put outcome → HasOutcome number events put outcome
both_told number events put Got has = has
both_told number events put Gone has = has
both_told number events put Open has = has

-- so a put has the same outcome wherever both sides' own events are the same
pub same_in_each : (number : ℕ) (one other : List Event) (put : ℕ) (outcome : Outcome) → IsHonest one → IsFresh one → IsHonest other
    → IsFresh other → ((side : End) → events_at number side one ≡ events_at number side other)
    → HasOutcome number one put outcome → HasOutcome number other put outcome
same_in_each number one other put outcome honest fresh honest_other fresh_other same has =
    both_told number other put outcome
    (subst (λ (y : Receipt). OutcomeOf (alone number other) y put outcome) receipts
    (subst (λ (x : Alone). OutcomeOf x (receipt number one) put outcome) senders (told_both number one put outcome has)))
  where
    senders : alone number one ≡ alone number other
    senders = same_alone number one other (same Sender)

    receipts : receipt number one ≡ receipt number other
    receipts =
        by_receiver number (puts_after number one).sent one honest fresh (λ id ms was. refl)
        ∙ ap (λ (x : Alone). received number x.sent (events_at number Receiver one)) senders
        ∙ ap (received number (puts_after number other).sent) (same Receiver)
        ∙ sym (by_receiver number (puts_after number other).sent other honest_other fresh_other (λ id ms was. refl))
