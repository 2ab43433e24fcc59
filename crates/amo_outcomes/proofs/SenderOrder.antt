-- What a sender sent, asks for and has waiting stands in the order of the puts; and what it heard of was sent.
use Rattle.std.proofs.Common.{◌≡◌, ℕ, ◌+◌, Bool, true, false, eqb, if◌then◌else◌, Some, List, [], ◌∷◌, ◌++◌, length, take, drop, refl, sym, ◌∙◌, ap, subst, inl, inr, append_assoc, arith}
use Rattle.std.specs.List.{Contains}
use Rattle.std.proofs.lemmas.List.{take-append-drop, length-append, length-take, length-drop}
use Rattle.std.proofs.lemmas.List.Elements.{Contains-append_left, Contains-append_right, Contains-append_cases}
use Rattle.amo_object.specs.declared.step.End.{End}
use Rattle.amo_object.specs.declared.step.End.TheVariants.{Sender, Receiver}
use Rattle.amo_packet.specs.declared.packet.OwnedBody.{OwnedBody}
use Rattle.amo_packet.specs.declared.packet.OwnedBody.TheVariants as packet
use Rattle.amo_core.specs.declared.act.Act.{Act}
use Rattle.amo_core.specs.declared.act.Act.TheVariants as act
use Rattle.amo_core.specs.declared.reply.Reply.TheVariants as reply
use Rattle.amo_core.specs.declared.payload.Payload.{Payload}
use Rattle.amo_core.specs.Sender as sender
use Rattle.amo_core.specs.Receiver as receiver
use Rattle.amo_core.specs.declared.sender.SenderMode.{SenderMode}
use Rattle.amo_core.specs.declared.sender.SenderMode.TheVariants as sending
use Rattle.amo_core.specs.declared.receiver.ReceiverMode.{ReceiverMode}
use Rattle.amo_core.specs.declared.receiver.ReceiverMode.TheVariants as receiving
use Rattle.amo_world.specs.declared.event.Event.{Event}
use Rattle.amo_world.specs.Stream.{Stream, after}
use Rattle.amo_world.specs.History.{stream_after, after_if}
use Rattle.amo_outcomes.specs.Puts.{Handshake, Puts, sent_under, called, receiver_moved, acted, acted_if, puts_after}
use Rattle.amo_outcomes.specs.Outcome.{asking}
use Rattle.amo_outcomes.specs.Heard.{Heard, all_sent, heard_ack, heard_body, heard_act, hears, settles, heard_by, heard_if, heard_after}
use Rattle.amo_outcomes.specs.SenderOutcome.{unsent_of}
use Rattle.amo_outcomes.proofs.Parts.{Rises, rises_part, rises_push, part_none, part_before}
use Rattle.amo_outcomes.proofs.SenderRows.{OfRows, HoldOfChanges, by_rows, with_put, with_carried}

-- what travels under an identifier was sent
pub under_was_sent : (sent : List Handshake) (id put : ℕ) → Contains (sent_under sent id) put → Contains (all_sent sent) put
under_was_sent [] id put c = c
under_was_sent (h ∷ hs) id put c = either (eqb h.id id) (under_was_sent hs id put) c
  where
    either : (b : Bool) → (Contains (sent_under hs id) put → Contains (all_sent hs) put)
        → Contains (if b then h.puts else sent_under hs id) put → Contains (all_sent hs ++ h.puts) put
    either true earlier c = Contains-append_right (all_sent hs) h.puts put c
    either false earlier c = Contains-append_left (all_sent hs) h.puts put (earlier c)

-- by the sender's mode and what waits: all puts that were sent, are asked for or wait, in order; as many puts wait as messages; and none does
-- at a sender that is down
pub record InOrder (mode : SenderMode) (waiting : List (List ℕ)) (p : Puts) : Type 0 where
  pub rises : Rises 0 (all_sent p.sent ++ unsent_of mode p) p.count
  pub many : length p.waiting ≡ length waiting
  pub down : sender.is_down mode ≡ true → p.waiting ≡ []

abbrev KeepsOrder : OfRows
KeepsOrder mode waiting p a r now left q = InOrder mode waiting p → InOrder now left q

-- nothing waits at a sender that is down
forgets : (mode : SenderMode) (waiting : List (List ℕ)) (p : Puts) → InOrder mode waiting p
    → Rises 0 (all_sent p.sent ++ []) p.count
forgets mode waiting p o = rises_part (part_before (all_sent p.sent) (part_none (unsent_of mode p))) 0 p.count o.rises

no_more_messages : (waiting : List (List ℕ)) (p : Puts) → InOrder sending.Down waiting p → length waiting ≡ 0
no_more_messages waiting p o = sym o.many ∙ ap length (o.down refl)

differ : {b : Bool} → b ≡ false → b ≡ true → ⊥
differ is_false is_true = cc

puts : (mode : SenderMode) (waiting : List (List ℕ)) (p : Puts) (m : List ℕ) → sender.is_down mode ≡ false
    → KeepsOrder mode waiting p (act.Put m) (Some reply.Ok) mode (waiting ++ m ∷ []) (with_put p)
puts mode waiting p m up o = record {
  rises = subst (λ (ns : List ℕ). Rises 0 ns (p.count + 1)) same (rises_push 0 (all_sent p.sent ++ unsent_of mode p) p.count o.rises);
  many = simp length-append (omega (arith, o.many));
  down = λ down. absurd (differ up down);
}
  where
    same : (all_sent p.sent ++ (asking mode p.carried ++ p.waiting)) ++ p.count ∷ []
        ≡ all_sent p.sent ++ (asking mode p.carried ++ (p.waiting ++ p.count ∷ []))
    same = simp append_assoc

-- the first ones are carried, and still stand before those that wait
carries : (got : Bool) (word many : ℕ) (load : Payload) (p : Puts) → Rises 0 (all_sent p.sent ++ p.waiting) p.count
    → Rises 0 (all_sent p.sent ++ (take many p.waiting ++ drop many p.waiting)) p.count
carries got word many load p rises =
    subst (λ (ns : List ℕ). Rises 0 (all_sent p.sent ++ ns) p.count) (sym (take-append-drop many p.waiting)) rises

starts : (got : Bool) (m : List ℕ) (rest : List (List ℕ)) (word many : ℕ) (load : Payload) (left : List (List ℕ)) (p : Puts)
    → length (drop many p.waiting) ≡ length left → InOrder (sending.Quiet got) (m ∷ rest) p
    → InOrder (sending.NeedId word load) left (with_carried many p)
starts got m rest word many load left p same o = record {
  rises = carries got word many load p o.rises;
  many = same;
  down = λ down. absurd (differ refl down);
}

keeps_order : HoldOfChanges KeepsOrder
keeps_order = record {
  stays = λ mode waiting p a r up same o. o;
  stays_down = λ waiting p a r o. record {
    rises = forgets sending.Down waiting p o;
    many = sym (no_more_messages waiting p o);
    down = λ down. refl;
  };
  puts = puts;
  starts = λ got m rest word p o. starts got m rest word 1 _ rest p
      (length-drop 1 p.waiting ∙ omega (arith, o.many)) o;
  starts_batch = λ got m rest word p o. starts got m rest word (length (m ∷ take 3 rest)) _ (drop 3 rest) p
      (length-drop (length (m ∷ take 3 rest)) p.waiting ∙ omega (arith, o.many, length-take 3 rest, length-drop 3 rest)) o;
  sends = λ asked jd id k word load waiting p same o. record {
    rises = subst (λ (ns : List ℕ). Rises 0 ns p.count) (sym (append_assoc (all_sent p.sent) p.carried p.waiting)) o.rises;
    many = o.many;
    down = λ down. absurd (differ refl down);
  };
  acked = λ id under k word load got waiting p o. record { rises = o.rises; many = o.many; down = λ down. absurd (differ refl down) };
  crashes = λ mode waiting p o. record { rises = forgets mode waiting p o; many = refl; down = λ down. refl };
  recovers = λ waiting p o. record {
    rises = o.rises;
    many = ap length (o.down refl);
    down = λ down. absurd (differ refl down);
  };
}

-- the same of what a sender's own events change
pub record AreSame (p q : Puts) : Type 0 where
  pub count : p.count ≡ q.count
  pub waiting : p.waiting ≡ q.waiting
  pub carried : p.carried ≡ q.carried
  pub sent : p.sent ≡ q.sent

-- the receiver leaves that
moved_leaves : (at now : ReceiverMode) (p : Puts) → AreSame p (receiver_moved at now p)
moved_leaves receiving.Idle receiving.Down p = record { count = refl; waiting = refl; carried = refl; sent = refl }
moved_leaves (receiving.Accept jd accepted) receiving.Down p = record { count = refl; waiting = refl; carried = refl; sent = refl }
moved_leaves (receiving.Rcvd under held) receiving.Down p = record { count = refl; waiting = refl; carried = refl; sent = refl }
moved_leaves (receiving.Ack under) receiving.Down p = record { count = refl; waiting = refl; carried = refl; sent = refl }
moved_leaves receiving.Down receiving.Down p = record { count = refl; waiting = refl; carried = refl; sent = refl }
moved_leaves (receiving.Accept jd accepted) (receiving.Rcvd id b) p = record { count = refl; waiting = refl; carried = refl; sent = refl }
moved_leaves receiving.Idle now p = record { count = refl; waiting = refl; carried = refl; sent = refl }
moved_leaves (receiving.Accept jd accepted) now p = record { count = refl; waiting = refl; carried = refl; sent = refl }
moved_leaves (receiving.Rcvd under held) now p = record { count = refl; waiting = refl; carried = refl; sent = refl }
moved_leaves (receiving.Ack under) now p = record { count = refl; waiting = refl; carried = refl; sent = refl }
moved_leaves receiving.Down now p = record { count = refl; waiting = refl; carried = refl; sent = refl }

got_leaves : (s : receiver.ReceiverState) (at : ReceiverMode) (p : Puts) → AreSame p (called act.Get (receiver.get s at).reply p)
got_leaves s (receiving.Rcvd id b) p = record { count = refl; waiting = refl; carried = refl; sent = refl }
got_leaves s receiving.Down p = record { count = refl; waiting = refl; carried = refl; sent = refl }
got_leaves s at p = record { count = refl; waiting = refl; carried = refl; sent = refl }

called_leaves : (s : receiver.ReceiverState) (a : Act) (p : Puts) → AreSame p (called a (receiver.row s a).reply p)
called_leaves s (act.Put m) p = record { count = refl; waiting = refl; carried = refl; sent = refl }
called_leaves s act.Get p = got_leaves s s.mode p
called_leaves s a p = record { count = refl; waiting = refl; carried = refl; sent = refl }

pub receiver_leaves : (s : Stream) (a : Act) (p : Puts) → AreSame p (acted s Receiver a p)
receiver_leaves s a p =
    let one = called_leaves s.receiver.state a p in
    let other = moved_leaves s.receiver.state.mode (receiver.row s.receiver.state a).state.mode
    (called a (receiver.row s.receiver.state a).reply p) in record {
      count = one.count ∙ other.count;
      waiting = one.waiting ∙ other.waiting;
      carried = one.carried ∙ other.carried;
      sent = one.sent ∙ other.sent;
    }

order_same : (mode : SenderMode) (waiting : List (List ℕ)) (p q : Puts) → AreSame p q → InOrder mode waiting p → InOrder mode waiting q
order_same mode waiting p q same o = record {
  rises =
      subst (λ (n : ℕ). Rises 0 (all_sent q.sent ++ unsent_of mode q) n) same.count
      (subst (λ (sent : List Handshake). Rises 0 (all_sent sent ++ unsent_of mode q) p.count) same.sent
      (subst (λ (ns : List ℕ). Rises 0 (all_sent p.sent ++ (asking mode ns ++ q.waiting)) p.count) same.carried
      (subst (λ (ns : List ℕ). Rises 0 (all_sent p.sent ++ (asking mode p.carried ++ ns)) p.count) same.waiting o.rises)));
  many = ap length (sym same.waiting) ∙ o.many;
  down = λ down. sym same.waiting ∙ o.down down;
}

act_keeps_order : (s : Stream) (side : End) (a : Act) (p : Puts) → InOrder s.sender.state.mode s.sender.state.waiting p
    → (let t = after s side a in InOrder t.sender.state.mode t.sender.state.waiting (acted s side a p))
act_keeps_order s Sender a p o = by_rows KeepsOrder keeps_order s.sender.state.stream s.sender.state.mode s.sender.state.waiting p a o
act_keeps_order s Receiver a p o =
    order_same s.sender.state.mode s.sender.state.waiting p (acted s Receiver a p) (receiver_leaves s a p) o

-- it is so after each history
pub in_order : (number : ℕ) (events : List Event)
    → InOrder (stream_after number events).sender.state.mode (stream_after number events).sender.state.waiting (puts_after number events)
in_order number [] = record { rises = omega arith; many = refl; down = λ down. absurd (differ refl down) }
in_order number (e ∷ past) = by (eqb number e.stream) (in_order number past)
  where
    by : (here : Bool)
        → InOrder (stream_after number past).sender.state.mode (stream_after number past).sender.state.waiting (puts_after number past)
        → (let s = after_if here (stream_after number past) e in
        InOrder s.sender.state.mode s.sender.state.waiting (acted_if here (stream_after number past) e (puts_after number past)))
    by true before = act_keeps_order (stream_after number past) e.side e.act (puts_after number past) before
    by false before = before

-- what was heard of was sent
pub record WasSent (sent : List Handshake) (h : Heard) : Type 0 where
  pub got : (put : ℕ) → Contains h.got put → Contains (all_sent sent) put
  pub settled : (put : ℕ) → Contains h.settled put → Contains (all_sent sent) put

ack_was_sent : (sent : List Handshake) (id : ℕ) (got : Bool) (h : Heard) → WasSent sent h
    → WasSent sent (heard_ack got (sent_under sent id) h)
ack_was_sent sent id true h w = record {
  got = λ put c. elim (Contains-append_cases h.got (sent_under sent id) put c) [
    | inl before ↦ w.got put before
    | inr now ↦ under_was_sent sent id put now
  ];
  settled = w.settled;
}
ack_was_sent sent id false h w = record {
  got = w.got;
  settled = λ put c. elim (Contains-append_cases h.settled (sent_under sent id) put c) [
    | inl before ↦ w.settled put before
    | inr now ↦ under_was_sent sent id put now
  ];
}

body_was_sent : (sent : List Handshake) (body : OwnedBody) (h : Heard) → WasSent sent h → WasSent sent (heard_body body sent h)
body_was_sent sent (packet.Ack id got) h w = ack_was_sent sent id got h w
body_was_sent sent body h w = w

act_was_sent : (sent : List Handshake) (a : Act) (h : Heard) → WasSent sent h → WasSent sent (heard_act a sent h)
act_was_sent sent (act.Deliver p word) h w = body_was_sent sent p.body h w
act_was_sent sent a h w = w

pub hears_was_sent : (mode : SenderMode) (sent : List Handshake) (a : Act) (h : Heard) → WasSent sent h → WasSent sent (hears mode a sent h)
hears_was_sent sending.Down sent a h w = w
hears_was_sent mode sent a h w = act_was_sent sent a h w

abbrev KeepsSent : OfRows
KeepsSent mode waiting p a r now left q = (h : Heard) → WasSent p.sent h → WasSent q.sent (settles mode now p.sent h)

pub same_mode : (mode : SenderMode) (sent : List Handshake) (h : Heard) → settles mode mode sent h ≡ h
same_mode (sending.Quiet got) sent h = refl
same_mode (sending.NeedId jd load) sent h = refl
same_mode (sending.Send id load) sent h = refl
same_mode sending.Down sent h = refl

pub down_mode : (mode : SenderMode) (sent : List Handshake) (h : Heard) → settles mode sending.Down sent h ≡ h
down_mode (sending.Quiet got) sent h = refl
down_mode (sending.NeedId jd load) sent h = refl
down_mode (sending.Send id load) sent h = refl
down_mode sending.Down sent h = refl

keeps_sent : HoldOfChanges KeepsSent
keeps_sent = record {
  stays = λ mode waiting p a r up same h w. subst (WasSent p.sent) (sym (same_mode mode p.sent h)) w;
  stays_down = λ waiting p a r h w. w;
  puts = λ mode waiting p m up h w. subst (WasSent p.sent) (sym (same_mode mode p.sent h)) w;
  starts = λ got m rest word p h w. w;
  starts_batch = λ got m rest word p h w. w;
  sends = λ asked jd id k word load waiting p same h w. record {
    got = λ put c. Contains-append_left (all_sent p.sent) p.carried put (w.got put c);
    settled = λ put c. Contains-append_left (all_sent p.sent) p.carried put c;
  };
  acked = λ id under k word load got waiting p h w. w;
  crashes = λ mode waiting p h w. subst (WasSent p.sent) (sym (down_mode mode p.sent h)) w;
  recovers = λ waiting p h w. w;
}

act_keeps_sent : (s : Stream) (side : End) (a : Act) (p : Puts) (h : Heard) → WasSent p.sent h
    → WasSent (acted s side a p).sent (heard_by s side a p h)
act_keeps_sent s Sender a p h w =
    by_rows KeepsSent keeps_sent s.sender.state.stream s.sender.state.mode s.sender.state.waiting p a (hears s.sender.state.mode a p.sent h)
    (hears_was_sent s.sender.state.mode p.sent a h w)
act_keeps_sent s Receiver a p h w = subst (λ (sent : List Handshake). WasSent sent h) (receiver_leaves s a p).sent w

pub heard_was_sent : (number : ℕ) (events : List Event) → WasSent (puts_after number events).sent (heard_after number events)
heard_was_sent number [] = record { got = λ put c. c; settled = λ put c. c }
heard_was_sent number (e ∷ past) = by (eqb number e.stream) (heard_was_sent number past)
  where
    by : (here : Bool) → WasSent (puts_after number past).sent (heard_after number past)
        → WasSent (acted_if here (stream_after number past) e (puts_after number past)).sent
        (heard_if here (stream_after number past) e (puts_after number past) (heard_after number past))
    by true before = act_keeps_sent (stream_after number past) e.side e.act (puts_after number past) (heard_after number past) before
    by false before = before
