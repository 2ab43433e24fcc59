-- A history that stands for another one still does behind more events, and tells of later puts what that one does.
use Rattle.std.proofs.Common.{◌≡◌, ℕ, ◌+◌, ◌<◌, Bool, true, false, eqb, if◌then◌else◌, Option, Some, List, [], ◌∷◌, ◌++◌, get_or, length, take, drop, refl, sym, ◌∙◌, ap, subst, inl, inr, ◌⊎◌, arith}
use Rattle.std.specs.List.{Contains}
use Rattle.std.proofs.lemmas.List.{drop-map, get_or-map, length-map, map-append, take-map}
use Rattle.std.proofs.lemmas.List.Elements.{Contains-append_left, Contains-append_right, Contains-append_cases}
use Rattle.amo_object.specs.declared.step.End.{End}
use Rattle.amo_object.specs.declared.step.End.TheVariants.{Sender, Receiver}
use Rattle.amo_packet.specs.declared.packet.OwnedBody.{OwnedBody}
use Rattle.amo_packet.specs.declared.packet.OwnedBody.TheVariants as packet
use Rattle.amo_core.specs.declared.act.Act.{Act}
use Rattle.amo_core.specs.declared.act.Act.TheVariants as act
use Rattle.amo_core.specs.declared.reply.Reply.{Reply}
use Rattle.amo_core.specs.declared.reply.Reply.TheVariants as reply
use Rattle.amo_core.specs.Row.{Row, silent}
use Rattle.amo_core.specs.Sender as sender
use Rattle.amo_core.specs.declared.sender.SenderMode.{SenderMode}
use Rattle.amo_core.specs.declared.sender.SenderMode.TheVariants as sending
use Rattle.amo_world.specs.declared.event.Event.{Event}
use Rattle.amo_world.specs.Stream.{Stream, after}
use Rattle.amo_world.specs.History.{stream_after, after_if}
use Rattle.amo_outcomes.specs.declared.sender_outcome.SenderOutcome.{SenderOutcome}
use Rattle.amo_outcomes.specs.declared.sender_outcome.SenderOutcome.TheVariants.{Got, Gone, Open, Unknown}
use Rattle.amo_outcomes.specs.Puts.{Handshake, Puts, none, sent_under, called, sender_moved, acted, acted_if, puts_after}
use Rattle.amo_outcomes.specs.Outcome.{asking}
use Rattle.amo_outcomes.specs.Heard.{Heard, all_sent, heard_body, heard_act, hears, settles, heard_by, heard_if, heard_after}
use Rattle.amo_outcomes.specs.SenderOutcome.{unsent_of, HasSenderOutcome}
use Rattle.amo_outcomes.specs.StandsFor.{AreThose, StandsAt, StandsFor, moved, unanswered}
use Rattle.amo_outcomes.proofs.SenderRows.{OfRows, HoldOfChanges, by_rows}
use Rattle.amo_outcomes.proofs.SenderOrder.{AreSame, receiver_leaves}

pub moved_alike : (many : ℕ) (puts : List ℕ) → AreThose many puts (moved many puts)
moved_alike many puts put = (there, back)
  where
    behind : ℕ → ℕ
    behind n = many + n

    there : Contains puts put → Contains (moved many puts) (many + put)
    there (k, less, is) = (k, omega (arith, less, length-map puts behind), get_or-map behind puts k put (many + put) less ∙ ap behind is)

    back : Contains (moved many puts) (many + put) → Contains puts put
    back (k, less, is) =
        let within : k < length puts = omega (arith, less, length-map puts behind) in
        let same : many + get_or puts k put ≡ many + put = sym (get_or-map behind puts k put (many + put) within) ∙ is in
        (k, within, omega (arith, same))

pub both_alike : (many : ℕ) (xs' ys' xs ys : List ℕ) → AreThose many xs' xs → AreThose many ys' ys → AreThose many (xs' ++ ys') (xs ++ ys)
both_alike many xs' ys' xs ys one other put = (there, back)
  where
    there : Contains (xs' ++ ys') put → Contains (xs ++ ys) (many + put)
    there c = elim (Contains-append_cases xs' ys' put c) [
      | inl before ↦ Contains-append_left xs ys (many + put) ((one put).0 before)
      | inr behind ↦ Contains-append_right xs ys (many + put) ((other put).0 behind)
    ]

    back : Contains (xs ++ ys) (many + put) → Contains (xs' ++ ys') put
    back c = elim (Contains-append_cases xs ys (many + put) c) [
      | inl before ↦ Contains-append_left xs' ys' put ((one put).1 before)
      | inr behind ↦ Contains-append_right xs' ys' put ((other put).1 behind)
    ]

-- what was heard of the same puts
record HeardAlike (many : ℕ) (h' h : Heard) : Type 0 where
  got : AreThose many h'.got h.got
  settled : AreThose many h'.settled h.settled

module _ (many : ℕ) (sent' sent : List Handshake) (those : AreThose many (all_sent sent') (all_sent sent)) (under : (id : ℕ) → AreThose many (sent_under sent' id) (sent_under sent id)) where
  body_alike : (body : OwnedBody) (h' h : Heard) → HeardAlike many h' h → HeardAlike many (heard_body body sent' h') (heard_body body sent h)
  body_alike (packet.Ack id true) h' h alike = record {
    got = both_alike many h'.got (sent_under sent' id) h.got (sent_under sent id) alike.got (under id);
    settled = alike.settled;
  }
  body_alike (packet.Ack id false) h' h alike = record {
    got = alike.got;
    settled = both_alike many h'.settled (sent_under sent' id) h.settled (sent_under sent id) alike.settled (under id);
  }
  body_alike body h' h alike = alike

  act_alike : (a : Act) (h' h : Heard) → HeardAlike many h' h → HeardAlike many (heard_act a sent' h') (heard_act a sent h)
  act_alike (act.Deliver p word) h' h alike = body_alike p.body h' h alike
  act_alike a h' h alike = alike

  hears_alike : (mode : SenderMode) (a : Act) (h' h : Heard) → HeardAlike many h' h → HeardAlike many (hears mode a sent' h') (hears mode a sent h)
  hears_alike sending.Down a h' h alike = alike
  hears_alike (sending.Quiet got) a h' h alike = act_alike a h' h alike
  hears_alike (sending.NeedId jd load) a h' h alike = act_alike a h' h alike
  hears_alike (sending.Send id load) a h' h alike = act_alike a h' h alike

  settles_alike : (mode now : SenderMode) (h' h : Heard) → HeardAlike many h' h → HeardAlike many (settles mode now sent' h') (settles mode now sent h)
  settles_alike (sending.NeedId jd asked) (sending.Send id load) h' h alike = record { got = alike.got; settled = those }
  settles_alike mode now h' h alike = alike

-- the puts, at a sender of a mode
record PutsAlike (many : ℕ) (mode : SenderMode) (p' p : Puts) : Type 0 where
  count : p.count ≡ many + p'.count
  waiting : p.waiting ≡ moved many p'.waiting
  asked : asking mode p.carried ≡ moved many (asking mode p'.carried)
  sent : AreThose many (all_sent p'.sent) (all_sent p.sent)
  under : (id : ℕ) → AreThose many (sent_under p'.sent id) (sent_under p.sent id)

called_alike : (many : ℕ) (mode : SenderMode) (a : Act) (r : Option Reply) (p' p : Puts) → PutsAlike many mode p' p → PutsAlike many mode (called a r p') (called a r p)
called_alike many mode (act.Put m) (Some reply.Ok) p' p alike = record {
  count = omega (arith, alike.count);
  waiting =
      ap (λ (puts : List ℕ). puts ++ p.count ∷ []) alike.waiting
      ∙ ap (λ (n : ℕ). moved many p'.waiting ++ n ∷ []) alike.count
      ∙ sym (map-append (λ (put : ℕ). many + put) p'.waiting (p'.count ∷ []));
  asked = alike.asked;
  sent = alike.sent;
  under = alike.under;
}
called_alike many mode act.Get (Some (reply.Got m)) p' p alike = record {
  count = alike.count;
  waiting = alike.waiting;
  asked = alike.asked;
  sent = alike.sent;
  under = alike.under;
}
called_alike many mode a r p' p alike = alike

-- in no row a handshake begins but at a sender at rest
abbrev CanMove : SenderMode → SenderMode → Type 0
CanMove (sending.Send id load) (sending.NeedId jd asked) = ⊥
CanMove sending.Down (sending.NeedId jd asked) = ⊥
CanMove _ _ = Unit {0}

abbrev Moves : OfRows
Moves mode waiting p a r now left q = CanMove (unanswered mode) (unanswered now)

stays_so : (mode : SenderMode) → CanMove (unanswered mode) (unanswered mode)
stays_so (sending.Quiet got) = tt
stays_so (sending.NeedId jd load) = tt
stays_so (sending.Send id load) = tt
stays_so sending.Down = tt

goes_down : (mode : SenderMode) → CanMove (unanswered mode) sending.Down
goes_down (sending.Quiet got) = tt
goes_down (sending.NeedId jd load) = tt
goes_down (sending.Send id load) = tt
goes_down sending.Down = tt

can_move : HoldOfChanges Moves
can_move = record {
  stays = λ mode waiting p a r up same. stays_so mode;
  stays_down = λ waiting p a r. tt;
  puts = λ mode waiting p m up. stays_so mode;
  starts = λ got m rest word p. tt;
  starts_batch = λ got m rest word p. tt;
  sends = λ asked jd id k word load waiting p same. tt;
  acked = λ id under k word load got waiting p. tt;
  crashes = λ mode waiting p. goes_down mode;
  recovers = λ waiting p. tt;
}

-- the puts behind a move
module _ (many : ℕ) (p' p : Puts) where
  at_rest : (mode now : SenderMode) → ((carried : List ℕ) → asking now carried ≡ []) → PutsAlike many mode p' p → PutsAlike many now p' p
  at_rest mode now rests alike = record {
    count = alike.count;
    waiting = alike.waiting;
    asked = rests p.carried ∙ sym (ap (moved many) (rests p'.carried));
    sent = alike.sent;
    under = alike.under;
  }

  moved_down : (mode : SenderMode) → PutsAlike many mode p' p → PutsAlike many sending.Down (record p' { waiting = [] }) (record p { waiting = [] })
  moved_down mode alike = record { count = alike.count; waiting = refl; asked = refl; sent = alike.sent; under = alike.under }

  moved_on : (mode now : SenderMode) → CanMove mode now → PutsAlike many mode p' p → PutsAlike many now (sender_moved mode now p') (sender_moved mode now p)
  moved_on (sending.Quiet was) (sending.NeedId jd load) can alike =
      let count = length (sender.messages_in load) in record {
        count = alike.count;
        waiting = ap (drop count) alike.waiting ∙ drop-map (λ (put : ℕ). many + put) count p'.waiting;
        asked = ap (take count) alike.waiting ∙ take-map (λ (put : ℕ). many + put) count p'.waiting;
        sent = alike.sent;
        under = alike.under;
      }
  moved_on (sending.NeedId old before) (sending.Send id load) can alike = record {
    count = alike.count;
    waiting = alike.waiting;
    asked = refl;
    sent = both_alike many (all_sent p'.sent) p'.carried (all_sent p.sent) p.carried alike.sent carried_alike;
    under = λ x. by x (eqb id x);
  }
    where
      carried_alike : AreThose many p'.carried p.carried
      carried_alike = subst (AreThose many p'.carried) (sym alike.asked) (moved_alike many p'.carried)

      by : (x : ℕ) (b : Bool) → AreThose many (if b then p'.carried else sent_under p'.sent x) (if b then p.carried else sent_under p.sent x)
      by x true = carried_alike
      by x false = alike.under x
  moved_on (sending.NeedId old before) (sending.NeedId jd load) can alike = record {
    count = alike.count;
    waiting = alike.waiting;
    asked = alike.asked;
    sent = alike.sent;
    under = alike.under;
  }
  moved_on (sending.Send id load) (sending.NeedId jd asked) can alike = absurd can
  moved_on sending.Down (sending.NeedId jd asked) can alike = absurd can
  moved_on (sending.Quiet was) sending.Down can alike = moved_down (sending.Quiet was) alike
  moved_on (sending.NeedId old before) sending.Down can alike = moved_down (sending.NeedId old before) alike
  moved_on (sending.Send id load) sending.Down can alike = moved_down (sending.Send id load) alike
  moved_on sending.Down sending.Down can alike = moved_down sending.Down alike
  moved_on (sending.Quiet was) (sending.Quiet got) can alike = at_rest (sending.Quiet was) (sending.Quiet got) (λ carried. refl) alike
  moved_on (sending.Quiet was) (sending.Send id load) can alike = at_rest (sending.Quiet was) (sending.Send id load) (λ carried. refl) alike
  moved_on (sending.NeedId old before) (sending.Quiet got) can alike = at_rest (sending.NeedId old before) (sending.Quiet got) (λ carried. refl) alike
  moved_on (sending.Send under before) (sending.Quiet got) can alike = at_rest (sending.Send under before) (sending.Quiet got) (λ carried. refl) alike
  moved_on (sending.Send under before) (sending.Send id load) can alike = at_rest (sending.Send under before) (sending.Send id load) (λ carried. refl) alike
  moved_on sending.Down (sending.Quiet got) can alike = at_rest sending.Down (sending.Quiet got) (λ carried. refl) alike
  moved_on sending.Down (sending.Send id load) can alike = at_rest sending.Down (sending.Send id load) (λ carried. refl) alike

-- what is known of the last message changes nothing of that
moved_unanswered : (mode now : SenderMode) (p : Puts) → sender_moved mode now p ≡ sender_moved (unanswered mode) (unanswered now) p
moved_unanswered (sending.Quiet was) (sending.Quiet got) p = refl
moved_unanswered (sending.Quiet was) (sending.NeedId jd load) p = refl
moved_unanswered (sending.Quiet was) (sending.Send id load) p = refl
moved_unanswered (sending.Quiet was) sending.Down p = refl
moved_unanswered (sending.NeedId old before) (sending.Quiet got) p = refl
moved_unanswered (sending.NeedId old before) (sending.NeedId jd load) p = refl
moved_unanswered (sending.NeedId old before) (sending.Send id load) p = refl
moved_unanswered (sending.NeedId old before) sending.Down p = refl
moved_unanswered (sending.Send under before) (sending.Quiet got) p = refl
moved_unanswered (sending.Send under before) (sending.NeedId jd load) p = refl
moved_unanswered (sending.Send under before) (sending.Send id load) p = refl
moved_unanswered (sending.Send under before) sending.Down p = refl
moved_unanswered sending.Down (sending.Quiet got) p = refl
moved_unanswered sending.Down (sending.NeedId jd load) p = refl
moved_unanswered sending.Down (sending.Send id load) p = refl
moved_unanswered sending.Down sending.Down p = refl

settles_unanswered : (mode now : SenderMode) (sent : List Handshake) (h : Heard) → settles mode now sent h ≡ settles (unanswered mode) (unanswered now) sent h
settles_unanswered (sending.NeedId old before) (sending.Quiet got) sent h = refl
settles_unanswered (sending.NeedId old before) (sending.NeedId jd load) sent h = refl
settles_unanswered (sending.NeedId old before) (sending.Send id load) sent h = refl
settles_unanswered (sending.NeedId old before) sending.Down sent h = refl
settles_unanswered (sending.Quiet was) now sent h = refl
settles_unanswered (sending.Send under before) now sent h = refl
settles_unanswered sending.Down now sent h = refl

hears_unanswered : (mode : SenderMode) (a : Act) (sent : List Handshake) (h : Heard) → hears mode a sent h ≡ hears (unanswered mode) a sent h
hears_unanswered (sending.Quiet was) a sent h = refl
hears_unanswered (sending.NeedId jd load) a sent h = refl
hears_unanswered (sending.Send id load) a sent h = refl
hears_unanswered sending.Down a sent h = refl

pub asking_unanswered : (mode : SenderMode) (carried : List ℕ) → asking mode carried ≡ asking (unanswered mode) carried
asking_unanswered (sending.Quiet was) carried = refl
asking_unanswered (sending.NeedId jd load) carried = refl
asking_unanswered (sending.Send id load) carried = refl
asking_unanswered sending.Down carried = refl

-- such modes are the same, or both are at rest
pub alike_modes : (mode' mode : SenderMode) → unanswered mode' ≡ unanswered mode → (mode' ≡ mode) ⊎ ((was : Bool) × (got : Bool) × (mode' ≡ sending.Quiet was) × (mode ≡ sending.Quiet got))
alike_modes (sending.Quiet was) (sending.Quiet got) same = inr (was, got, refl, refl)
alike_modes (sending.Quiet was) (sending.NeedId jd load) same = inl cc
alike_modes (sending.Quiet was) (sending.Send id load) same = inl cc
alike_modes (sending.Quiet was) sending.Down same = inl cc
alike_modes (sending.NeedId old before) (sending.Quiet got) same = inl cc
alike_modes (sending.NeedId old before) (sending.NeedId jd load) same = inl same
alike_modes (sending.NeedId old before) (sending.Send id load) same = inl cc
alike_modes (sending.NeedId old before) sending.Down same = inl cc
alike_modes (sending.Send under before) (sending.Quiet got) same = inl cc
alike_modes (sending.Send under before) (sending.NeedId jd load) same = inl cc
alike_modes (sending.Send under before) (sending.Send id load) same = inl same
alike_modes (sending.Send under before) sending.Down same = inl cc
alike_modes sending.Down (sending.Quiet got) same = inl cc
alike_modes sending.Down (sending.NeedId jd load) same = inl cc
alike_modes sending.Down (sending.Send id load) same = inl cc
alike_modes sending.Down sending.Down same = inl refl

-- rows of an act at two such senders
pub record RowsAlike (a : Act) (r' r : Row sender.SenderState) : Type 0 where
  pub stream : r'.state.stream ≡ r.state.stream
  pub mode : unanswered r'.state.mode ≡ unanswered r.state.mode
  pub messages : r'.state.waiting ≡ r.state.waiting
  pub replies : (p : Puts) → called a r'.reply p ≡ called a r.reply p

same_rows : (a : Act) (r : Row sender.SenderState) → RowsAlike a r r
same_rows a r = record { stream = refl; mode = refl; messages = refl; replies = λ p. refl }

-- a call that asks leaves the sender as it is
asked_state : (s : sender.SenderState) (mode : SenderMode) (waiting : List (List ℕ)) → (sender.get_ack s mode waiting).state ≡ s
asked_state s sending.Down waiting = refl
asked_state s (sending.Quiet true) [] = refl
asked_state s (sending.Quiet false) [] = refl
asked_state s (sending.Quiet b) (m ∷ waiting) = of_flag b
  where
    of_flag : (b : Bool) → (sender.get_ack s (sending.Quiet b) (m ∷ waiting)).state ≡ s
    of_flag true = refl
    of_flag false = refl
asked_state s (sending.NeedId jd load) waiting = refl
asked_state s (sending.Send id load) waiting = refl

module _ (n : ℕ) (was got : Bool) where
  abbrev one : List (List ℕ) → sender.SenderState
  one waiting = record { stream = n; mode = sending.Quiet was; waiting = waiting }

  abbrev other : List (List ℕ) → sender.SenderState
  other waiting = record { stream = n; mode = sending.Quiet got; waiting = waiting }

  put_rows : (full : Bool) (waiting : List (List ℕ)) (m : List ℕ)
      → RowsAlike (act.Put m) (if full then silent (one waiting) reply.Full else silent (one (waiting ++ m ∷ [])) reply.Ok)
      (if full then silent (other waiting) reply.Full else silent (other (waiting ++ m ∷ [])) reply.Ok)
  put_rows true waiting m = record { stream = refl; mode = refl; messages = refl; replies = λ p. refl }
  put_rows false waiting m = record { stream = refl; mode = refl; messages = refl; replies = λ p. refl }

  body_rows : (body : OwnedBody) (waiting : List (List ℕ)) (k word : ℕ)
      → RowsAlike (act.Deliver (record { stream = k; body = body }) word) (sender.deliver (one waiting) body) (sender.deliver (other waiting) body)
  body_rows (packet.Ack id true) waiting k word = record { stream = refl; mode = refl; messages = refl; replies = λ p. refl }
  body_rows (packet.Ack id false) waiting k word = record { stream = refl; mode = refl; messages = refl; replies = λ p. refl }
  body_rows (packet.Accept jd id) waiting k word = record { stream = refl; mode = refl; messages = refl; replies = λ p. refl }
  body_rows (packet.NeedUid jd) waiting k word = record { stream = refl; mode = refl; messages = refl; replies = λ p. refl }
  body_rows (packet.Send id m) waiting k word = record { stream = refl; mode = refl; messages = refl; replies = λ p. refl }
  body_rows (packet.Cleanup id) waiting k word = record { stream = refl; mode = refl; messages = refl; replies = λ p. refl }
  body_rows (packet.Batch id b) waiting k word = record { stream = refl; mode = refl; messages = refl; replies = λ p. refl }

  ask_rows : (waiting : List (List ℕ)) → RowsAlike act.Ack (sender.get_ack (one waiting) (sending.Quiet was) waiting) (sender.get_ack (other waiting) (sending.Quiet got) waiting)
  ask_rows waiting =
      let mine = asked_state (one waiting) (sending.Quiet was) waiting in
      let its = asked_state (other waiting) (sending.Quiet got) waiting in record {
        stream = ap (λ (s : sender.SenderState). s.stream) mine ∙ sym (ap (λ (s : sender.SenderState). s.stream) its);
        mode = ap (λ (s : sender.SenderState). unanswered s.mode) mine ∙ sym (ap (λ (s : sender.SenderState). unanswered s.mode) its);
        messages = ap (λ (s : sender.SenderState). s.waiting) mine ∙ sym (ap (λ (s : sender.SenderState). s.waiting) its);
        replies = λ p. refl;
      }

  quiet_rows : (waiting : List (List ℕ)) (a : Act) → RowsAlike a (sender.row (one waiting) a) (sender.row (other waiting) a)
  quiet_rows waiting (act.Put m) = put_rows (eqb (length waiting) 16) waiting m
  quiet_rows waiting act.Get = record { stream = refl; mode = refl; messages = refl; replies = λ p. refl }
  quiet_rows waiting act.Ack = ask_rows waiting
  quiet_rows [] (act.Start word) = record { stream = refl; mode = refl; messages = refl; replies = λ p. refl }
  quiet_rows (m ∷ waiting) (act.Start word) = record { stream = refl; mode = refl; messages = refl; replies = λ p. refl }
  quiet_rows [] (act.Batch word) = record { stream = refl; mode = refl; messages = refl; replies = λ p. refl }
  quiet_rows (m ∷ waiting) (act.Batch word) = record { stream = refl; mode = refl; messages = refl; replies = λ p. refl }
  quiet_rows waiting act.Resend = record { stream = refl; mode = refl; messages = refl; replies = λ p. refl }
  quiet_rows waiting (act.Deliver p word) = body_rows p.body waiting p.stream word
  quiet_rows waiting act.Crash = record { stream = refl; mode = refl; messages = refl; replies = λ p. refl }
  quiet_rows waiting act.Recover = record { stream = refl; mode = refl; messages = refl; replies = λ p. refl }

pub rows_alike : (s' s : sender.SenderState) (a : Act) → s'.stream ≡ s.stream → unanswered s'.mode ≡ unanswered s.mode → s'.waiting ≡ s.waiting → RowsAlike a (sender.row s' a) (sender.row s a)
rows_alike s' s a stream mode messages = elim (alike_modes s'.mode s.mode mode) [
  | inl same ↦ subst (λ (t : sender.SenderState). RowsAlike a (sender.row t a) (sender.row s a)) (sym (whole same)) (same_rows a (sender.row s a))
  | inr quiet ↦
      subst (λ (t : sender.SenderState). RowsAlike a (sender.row t a) (sender.row s a)) (sym (state_is s' s.stream (sending.Quiet quiet.0) s.waiting stream quiet.2 messages))
      (subst (λ (t : sender.SenderState). RowsAlike a (sender.row (record { stream = s.stream; mode = sending.Quiet quiet.0; waiting = s.waiting }) a) (sender.row t a))
      (sym (state_is s s.stream (sending.Quiet quiet.1) s.waiting refl quiet.3 refl))
      (quiet_rows s.stream quiet.0 quiet.1 s.waiting a))
]
  where
    state_is : (t : sender.SenderState) (n : ℕ) (m : SenderMode) (w : List (List ℕ)) → t.stream ≡ n → t.mode ≡ m → t.waiting ≡ w → t ≡ record { stream = n; mode = m; waiting = w }
    state_is t n m w one two three =
        ap (λ (x : ℕ). state x t.mode t.waiting) one ∙ ap (λ (x : SenderMode). state n x t.waiting) two ∙ ap (λ (x : List (List ℕ)). state n m x) three
      where
        state : ℕ → SenderMode → List (List ℕ) → sender.SenderState
        state x y z = record { stream = x; mode = y; waiting = z }

    whole : s'.mode ≡ s.mode → s' ≡ s
    whole same = state_is s' s.stream s.mode s.waiting stream same messages

-- what is alike of the puts and of what was heard, and the sender
assembled : (many : ℕ) (t' t : sender.SenderState) (q' q : Puts) (g' g : Heard) → t'.stream ≡ t.stream → unanswered t'.mode ≡ unanswered t.mode → t'.waiting ≡ t.waiting
    → PutsAlike many (unanswered t.mode) q' q → HeardAlike many g' g → StandsAt many t' t q' q g' g
assembled many t' t q' q g' g stream mode messages puts heard = record {
  stream = stream;
  mode = mode;
  messages = messages;
  count = puts.count;
  waiting = puts.waiting;
  asked =
      asking_unanswered t.mode q.carried ∙ puts.asked
      ∙ ap (moved many) (sym (asking_unanswered t'.mode q'.carried ∙ ap (λ (m : SenderMode). asking m q'.carried) mode));
  sent = puts.sent;
  under = puts.under;
  got = heard.got;
  settled = heard.settled;
}

puts_alike : (many : ℕ) (s' s : sender.SenderState) (p' p : Puts) (h' h : Heard) → StandsAt many s' s p' p h' h → PutsAlike many (unanswered s.mode) p' p
puts_alike many s' s p' p h' h stands = record {
  count = stands.count;
  waiting = stands.waiting;
  asked =
      sym (asking_unanswered s.mode p.carried) ∙ stands.asked
      ∙ ap (moved many) (asking_unanswered s'.mode p'.carried ∙ ap (λ (m : SenderMode). asking m p'.carried) stands.mode);
  sent = stands.sent;
  under = stands.under;
}

-- an act at its sender
module _ (many : ℕ) (s' s : sender.SenderState) (p' p : Puts) (h' h : Heard) (a : Act) (stands : StandsAt many s' s p' p h' h) where
  abbrev r' : Row sender.SenderState
  r' = sender.row s' a

  abbrev r : Row sender.SenderState
  r = sender.row s a

  abbrev u : SenderMode
  u = unanswered s.mode

  abbrev v : SenderMode
  v = unanswered r.state.mode

  rows : RowsAlike a r' r
  rows = rows_alike s' s a stands.stream stands.mode stands.messages

  alike : PutsAlike many u p' p
  alike = puts_alike many s' s p' p h' h stands

  can : CanMove u v
  can = by_rows Moves can_move s.stream s.mode s.waiting none a

  mine : sender_moved s'.mode r'.state.mode (called a r'.reply p') ≡ sender_moved u v (called a r.reply p')
  mine =
      moved_unanswered s'.mode r'.state.mode (called a r'.reply p')
      ∙ ap (λ (m : SenderMode). sender_moved m (unanswered r'.state.mode) (called a r'.reply p')) stands.mode
      ∙ ap (λ (m : SenderMode). sender_moved u m (called a r'.reply p')) rows.mode
      ∙ ap (λ (q : Puts). sender_moved u v q) (rows.replies p')

  my_heard : settles s'.mode r'.state.mode p'.sent (hears s'.mode a p'.sent h') ≡ settles u v p'.sent (hears u a p'.sent h')
  my_heard =
      settles_unanswered s'.mode r'.state.mode p'.sent (hears s'.mode a p'.sent h')
      ∙ ap (λ (m : SenderMode). settles m (unanswered r'.state.mode) p'.sent (hears s'.mode a p'.sent h')) stands.mode
      ∙ ap (λ (m : SenderMode). settles u m p'.sent (hears s'.mode a p'.sent h')) rows.mode
      ∙ ap (λ (g : Heard). settles u v p'.sent g) (hears_unanswered s'.mode a p'.sent h' ∙ ap (λ (m : SenderMode). hears m a p'.sent h') stands.mode)

  its_heard : settles s.mode r.state.mode p.sent (hears s.mode a p.sent h) ≡ settles u v p.sent (hears u a p.sent h)
  its_heard =
      settles_unanswered s.mode r.state.mode p.sent (hears s.mode a p.sent h)
      ∙ ap (λ (g : Heard). settles u v p.sent g) (hears_unanswered s.mode a p.sent h)

  sender_stands : StandsAt many r'.state r.state (sender_moved s'.mode r'.state.mode (called a r'.reply p')) (sender_moved s.mode r.state.mode (called a r.reply p))
      (settles s'.mode r'.state.mode p'.sent (hears s'.mode a p'.sent h')) (settles s.mode r.state.mode p.sent (hears s.mode a p.sent h))
  sender_stands =
      assembled many r'.state r.state (sender_moved s'.mode r'.state.mode (called a r'.reply p')) (sender_moved s.mode r.state.mode (called a r.reply p))
      (settles s'.mode r'.state.mode p'.sent (hears s'.mode a p'.sent h')) (settles s.mode r.state.mode p.sent (hears s.mode a p.sent h))
      rows.stream rows.mode rows.messages
      (subst (λ (q : Puts). PutsAlike many v q (sender_moved s.mode r.state.mode (called a r.reply p))) (sym mine)
      (subst (λ (q : Puts). PutsAlike many v (sender_moved u v (called a r.reply p')) q) (sym (moved_unanswered s.mode r.state.mode (called a r.reply p)))
      (moved_on many (called a r.reply p') (called a r.reply p) u v can (called_alike many u a r.reply p' p alike))))
      (subst (λ (g : Heard). HeardAlike many g (settles s.mode r.state.mode p.sent (hears s.mode a p.sent h))) (sym my_heard)
      (subst (λ (g : Heard). HeardAlike many (settles u v p'.sent (hears u a p'.sent h')) g) (sym its_heard)
      (settles_alike many p'.sent p.sent stands.sent stands.under u v (hears u a p'.sent h') (hears u a p.sent h)
      (hears_alike many p'.sent p.sent stands.sent stands.under u a h' h (record { got = stands.got; settled = stands.settled })))))

-- the receiver's acts change nothing of it
same_stands : (many : ℕ) (s' s : sender.SenderState) (p' p q' q : Puts) (h' h : Heard) → AreSame p' q' → AreSame p q → StandsAt many s' s p' p h' h → StandsAt many s' s q' q h' h
same_stands many s' s p' p q' q h' h mine its stands = record {
  stream = stands.stream;
  mode = stands.mode;
  messages = stands.messages;
  count = sym its.count ∙ stands.count ∙ ap (λ (n : ℕ). many + n) mine.count;
  waiting = sym its.waiting ∙ stands.waiting ∙ ap (moved many) mine.waiting;
  asked = ap (asking s.mode) (sym its.carried) ∙ stands.asked ∙ ap (λ (ns : List ℕ). moved many (asking s'.mode ns)) mine.carried;
  sent = subst (λ (hs : List Handshake). AreThose many (all_sent hs) (all_sent q.sent)) mine.sent (subst (λ (hs : List Handshake). AreThose many (all_sent p'.sent) (all_sent hs)) its.sent stands.sent);
  under = λ id. subst (λ (hs : List Handshake). AreThose many (sent_under hs id) (sent_under q.sent id)) mine.sent
      (subst (λ (hs : List Handshake). AreThose many (sent_under p'.sent id) (sent_under hs id)) its.sent (stands.under id));
  got = stands.got;
  settled = stands.settled;
}

act_stands : (many : ℕ) (s' s : Stream) (p' p : Puts) (h' h : Heard) (side : End) (a : Act) → StandsAt many s'.sender.state s.sender.state p' p h' h
    → StandsAt many (after s' side a).sender.state (after s side a).sender.state (acted s' side a p') (acted s side a p) (heard_by s' side a p' h') (heard_by s side a p h)
act_stands many s' s p' p h' h Sender a stands = sender_stands many s'.sender.state s.sender.state p' p h' h a stands
act_stands many s' s p' p h' h Receiver a stands =
    same_stands many s'.sender.state s.sender.state p' p (acted s' Receiver a p') (acted s Receiver a p) h' h (receiver_leaves s' a p') (receiver_leaves s a p) stands

event_stands : (many : ℕ) (here : Bool) (s' s : Stream) (e : Event) (p' p : Puts) (h' h : Heard) → StandsAt many s'.sender.state s.sender.state p' p h' h
    → StandsAt many (after_if here s' e).sender.state (after_if here s e).sender.state (acted_if here s' e p') (acted_if here s e p) (heard_if here s' e p' h') (heard_if here s e p h)
event_stands many true s' s e p' p h' h stands = act_stands many s' s p' p h' h e.side e.act stands
event_stands many false s' s e p' p h' h stands = stands

-- behind more events
pub stands_on : (number many : ℕ) (newer part whole : List Event) → StandsFor number many part whole → StandsFor number many (newer ++ part) (newer ++ whole)
stands_on number many [] part whole stands = stands
stands_on number many (e ∷ newer) part whole stands =
    event_stands many (eqb number e.stream) (stream_after number (newer ++ part)) (stream_after number (newer ++ whole)) e (puts_after number (newer ++ part)) (puts_after number (newer ++ whole))
    (heard_after number (newer ++ part)) (heard_after number (newer ++ whole)) (stands_on number many newer part whole stands)

-- what one tells of a put the other one tells of it
module _ (number many : ℕ) (part whole : List Event) (stands : StandsFor number many part whole) where
  abbrev s' : sender.SenderState
  s' = (stream_after number part).sender.state

  abbrev s : sender.SenderState
  s = (stream_after number whole).sender.state

  abbrev p' : Puts
  p' = puts_after number part

  abbrev p : Puts
  p = puts_after number whole

  sent : AreThose many (all_sent p'.sent) (all_sent p.sent)
  sent = stands.sent

  unsent : AreThose many (unsent_of s'.mode p') (unsent_of s.mode p)
  unsent =
      subst (AreThose many (unsent_of s'.mode p'))
      (map-append (λ (put : ℕ). many + put) (asking s'.mode p'.carried) p'.waiting
      ∙ ap (λ (ns : List ℕ). ns ++ moved many p'.waiting) (sym stands.asked)
      ∙ ap (λ (ns : List ℕ). asking s.mode p.carried ++ ns) (sym stands.waiting))
      (moved_alike many (unsent_of s'.mode p'))

  pub tells_so : (put : ℕ) (outcome : SenderOutcome) → HasSenderOutcome number part put outcome → HasSenderOutcome number whole (many + put) outcome
  tells_so put Got has = (stands.got put).0 has
  tells_so put Gone has = (omega (arith, has.0, stands.count), λ c. has.1 ((sent put).1 c), λ c. has.2 ((unsent put).1 c))
  tells_so put Open has = (unsent put).0 has
  tells_so put (Unknown true) has = ((stands.settled put).0 has.0, λ c. has.1 ((stands.got put).1 c))
  tells_so put (Unknown false) has = ((sent put).0 has.0, λ c. has.1 ((stands.settled put).1 c), λ c. has.2 ((stands.got put).1 c))

  pub told_so : (put : ℕ) (outcome : SenderOutcome) → HasSenderOutcome number whole (many + put) outcome → HasSenderOutcome number part put outcome
  told_so put Got has = (stands.got put).1 has
  told_so put Gone has = (omega (arith, has.0, stands.count), λ c. has.1 ((sent put).0 c), λ c. has.2 ((unsent put).0 c))
  told_so put Open has = (unsent put).1 has
  told_so put (Unknown true) has = ((stands.settled put).1 has.0, λ c. has.1 ((stands.got put).0 c))
  told_so put (Unknown false) has = ((sent put).1 has.0, λ c. has.1 ((stands.settled put).0 c), λ c. has.2 ((stands.got put).0 c))

-- a row leaves the sender's stream
module _ (s : sender.SenderState) where
  either : (b : Bool) (x y : Row sender.SenderState) → x.state.stream ≡ s.stream → y.state.stream ≡ s.stream → (if b then x else y).state.stream ≡ s.stream
  either true x y same same_too = same
  either false x y same same_too = same_too

  cleaned : (t : sender.SenderState) (id : ℕ) (got : Bool) → t.stream ≡ s.stream → (sender.cleaning_up t id got).state.stream ≡ s.stream
  cleaned t id true same = same
  cleaned t id false same = same

  of_put : (mode : SenderMode) (m : List ℕ) → (sender.put s mode m).state.stream ≡ s.stream
  of_put sending.Down m = refl
  of_put (sending.Quiet got) m = either (eqb (length s.waiting) 16) _ _ refl refl
  of_put (sending.NeedId jd load) m = either (eqb (length s.waiting) 16) _ _ refl refl
  of_put (sending.Send id load) m = either (eqb (length s.waiting) 16) _ _ refl refl

  of_start : (mode : SenderMode) (waiting : List (List ℕ)) (word : ℕ) → (sender.start s mode waiting word).state.stream ≡ s.stream
  of_start (sending.Quiet got) [] word = refl
  of_start (sending.Quiet got) (m ∷ rest) word = refl
  of_start (sending.NeedId jd load) waiting word = refl
  of_start (sending.Send id load) waiting word = refl
  of_start sending.Down waiting word = refl

  of_batch : (mode : SenderMode) (waiting : List (List ℕ)) (word : ℕ) → (sender.start_batch s mode waiting word).state.stream ≡ s.stream
  of_batch (sending.Quiet got) [] word = refl
  of_batch (sending.Quiet got) (m ∷ rest) word = refl
  of_batch (sending.NeedId jd load) waiting word = refl
  of_batch (sending.Send id load) waiting word = refl
  of_batch sending.Down waiting word = refl

  of_resend : (mode : SenderMode) → (sender.resend s mode).state.stream ≡ s.stream
  of_resend (sending.Quiet got) = refl
  of_resend (sending.NeedId jd load) = refl
  of_resend (sending.Send id load) = refl
  of_resend sending.Down = refl

  of_accept : (mode : SenderMode) (jd id : ℕ) → (sender.accept s mode jd id).state.stream ≡ s.stream
  of_accept (sending.NeedId asked load) jd id = either (eqb asked jd) _ _ refl refl
  of_accept (sending.Send under load) jd id = either (eqb under id) _ _ refl refl
  of_accept (sending.Quiet got) jd id = refl
  of_accept sending.Down jd id = refl

  of_ack : (mode : SenderMode) (id : ℕ) (got : Bool) → (sender.ack s mode id got).state.stream ≡ s.stream
  of_ack (sending.Send under load) id got = either (eqb under id) _ _ (cleaned (record s { mode = sending.Quiet got }) id got refl) (cleaned s id got refl)
  of_ack (sending.NeedId jd load) id got = cleaned s id got refl
  of_ack (sending.Quiet was) id got = cleaned s id got refl
  of_ack sending.Down id got = refl

  of_body : (body : OwnedBody) → (sender.deliver s body).state.stream ≡ s.stream
  of_body (packet.Accept jd id) = of_accept s.mode jd id
  of_body (packet.Ack id got) = of_ack s.mode id got
  of_body body = refl

  of_recovery : (mode : SenderMode) → (sender.recover s mode).state.stream ≡ s.stream
  of_recovery sending.Down = refl
  of_recovery (sending.Quiet got) = refl
  of_recovery (sending.NeedId jd load) = refl
  of_recovery (sending.Send id load) = refl

  of_row : (a : Act) → (sender.row s a).state.stream ≡ s.stream
  of_row (act.Put m) = of_put s.mode m
  of_row act.Get = refl
  of_row act.Ack = ap (λ (t : sender.SenderState). t.stream) (asked_state s s.mode s.waiting)
  of_row (act.Start word) = of_start s.mode s.waiting word
  of_row (act.Batch word) = of_batch s.mode s.waiting word
  of_row act.Resend = of_resend s.mode
  of_row (act.Deliver p word) = of_body p.body
  of_row act.Crash = refl
  of_row act.Recover = of_recovery s.mode

-- a stream bears its number
pub of_number : (number : ℕ) (events : List Event) → (stream_after number events).sender.state.stream ≡ number
of_number number [] = refl
of_number number (e ∷ past) = by (eqb number e.stream) e.side (of_number number past)
  where
    by : (here : Bool) (side : End) → (stream_after number past).sender.state.stream ≡ number
        → (after_if here (stream_after number past) (record e { side = side })).sender.state.stream ≡ number
    by true Sender before = of_row (stream_after number past).sender.state e.act ∙ before
    by true Receiver before = before
    by false side before = before
