-- The events that tell of messages without an answer bring a stream's sender to where all events do.
use Rattle.std.proofs.Common.{◌≡◌, ℕ, zero, suc, ◌+◌, ◌-◌, ◌<◌, ◌≤◌, Bool, true, false, eqb, if◌then◌else◌, Option, Some, List, [], ◌∷◌, ◌++◌, append_assoc, length, length-append, take, drop, refl, sym, ◌∙◌, ap, subst, inl, inr, ◌⊎◌, arith}
use Rattle.std.specs.List.{filter}
use Rattle.std.proofs.lemmas.Bool.{eq-eqb, eqb-true}
use Rattle.std.proofs.lemmas.Bool.Decides.{eqb_tells}
use Rattle.std.proofs.lemmas.List.{length-drop, take-append-drop}
use Rattle.amo_object.specs.declared.step.End.{End}
use Rattle.amo_object.specs.declared.step.End.TheVariants.{Sender, Receiver}
use Rattle.amo_packet.specs.declared.packet.OwnedBody.{OwnedBody}
use Rattle.amo_packet.specs.declared.packet.OwnedBody.TheVariants as packet
use Rattle.amo_core.specs.declared.act.Act.{Act}
use Rattle.amo_core.specs.declared.act.Act.TheVariants as act
use Rattle.amo_core.specs.declared.reply.Reply.{Reply}
use Rattle.amo_core.specs.declared.reply.Reply.TheVariants as reply
use Rattle.amo_core.specs.declared.payload.Payload.{Payload}
use Rattle.amo_core.specs.declared.payload.Payload.TheVariants as payload
use Rattle.amo_core.specs.Row.{Row, silent}
use Rattle.amo_core.specs.Sender as sender
use Rattle.amo_core.specs.declared.sender.SenderMode.{SenderMode}
use Rattle.amo_core.specs.declared.sender.SenderMode.TheVariants as sending
use Rattle.amo_world.specs.declared.event.Event.{Event}
use Rattle.amo_world.specs.Stream.{Stream, after, reply_of}
use Rattle.amo_world.specs.History.{after_if, stream_after}
use Rattle.amo_outcomes.specs.Puts.{Puts, called, sender_moved, acted, acted_if, puts_after}
use Rattle.amo_outcomes.specs.Places.{is_put}
use Rattle.amo_outcomes.specs.RightPuts.{ArePutsRight, HasRightPut}
use Rattle.amo_outcomes.specs.StandsFor.{BringsTo, unanswered}
use Rattle.amo_outcomes.specs.OpenEvents.{is_taken, later_puts, open_events, opened_at, opened_by, opened_if}
use Rattle.amo_outcomes.proofs.SenderRows.{OfRows, HoldOfChanges, by_rows, with_put}
use Rattle.amo_outcomes.proofs.OpenPuts.{held_unanswered}
use Rattle.amo_outcomes.proofs.Resuming.{same_put_answer}
use Rattle.amo_outcomes.proofs.StandsFor.{of_number, rows_alike}

-- no more messages wait than may
module _ (s : sender.SenderState) (few : length s.waiting ≤ 16) where
  abbrev Few : Row sender.SenderState → Type 0
  Few r = length r.state.waiting ≤ 16

  few_either : (b : Bool) (x y : Row sender.SenderState) → Few x → Few y → Few (if b then x else y)
  few_either true x y one other = one
  few_either false x y one other = other

  few_taken : (m : List ℕ) → Few (if eqb (length s.waiting) 16 then silent s reply.Full else silent (record s { waiting = s.waiting ++ m ∷ [] }) reply.Ok)
  few_taken m = elim (eqb_tells (length s.waiting) 16) [
    | inl e ↦ rw e.0 few
    | inr e ↦ let apart = e.1 in let long = length-append s.waiting (m ∷ []) in rw e.0 (omega (arith, few, apart, long))
  ]

  few_put : (mode : SenderMode) (m : List ℕ) → Few (sender.put s mode m)
  few_put sending.Down m = few
  few_put (sending.Quiet got) m = few_taken m
  few_put (sending.NeedId jd load) m = few_taken m
  few_put (sending.Send id load) m = few_taken m

  few_start : (mode : SenderMode) (waiting : List (List ℕ)) (word : ℕ) → length waiting ≤ 16 → Few (sender.start s mode waiting word)
  few_start (sending.Quiet got) [] word less = few
  few_start (sending.Quiet got) (m ∷ rest) word less = omega (arith, less)
  few_start (sending.NeedId jd load) waiting word less = few
  few_start (sending.Send id load) waiting word less = few
  few_start sending.Down waiting word less = few

  few_batch : (mode : SenderMode) (waiting : List (List ℕ)) (word : ℕ) → length waiting ≤ 16 → Few (sender.start_batch s mode waiting word)
  few_batch (sending.Quiet got) [] word less = few
  few_batch (sending.Quiet got) (m ∷ rest) word less = let left = length-drop 3 rest in omega (arith, less, left)
  few_batch (sending.NeedId jd load) waiting word less = few
  few_batch (sending.Send id load) waiting word less = few
  few_batch sending.Down waiting word less = few

  few_resend : (mode : SenderMode) → Few (sender.resend s mode)
  few_resend (sending.Quiet got) = few
  few_resend (sending.NeedId jd load) = few
  few_resend (sending.Send id load) = few
  few_resend sending.Down = few

  few_accept : (mode : SenderMode) (jd id : ℕ) → Few (sender.accept s mode jd id)
  few_accept (sending.NeedId asked load) jd id = few_either (eqb asked jd) _ _ few few
  few_accept (sending.Send under load) jd id = few_either (eqb under id) _ _ few few
  few_accept (sending.Quiet got) jd id = few
  few_accept sending.Down jd id = few

  few_cleaned : (t : sender.SenderState) (id : ℕ) (got : Bool) → length t.waiting ≤ 16 → Few (sender.cleaning_up t id got)
  few_cleaned t id true less = less
  few_cleaned t id false less = less

  few_ack : (mode : SenderMode) (id : ℕ) (got : Bool) → Few (sender.ack s mode id got)
  few_ack (sending.Send under load) id got = few_either (eqb under id) _ _ (few_cleaned (record s { mode = sending.Quiet got }) id got few) (few_cleaned s id got few)
  few_ack (sending.NeedId jd load) id got = few_cleaned s id got few
  few_ack (sending.Quiet was) id got = few_cleaned s id got few
  few_ack sending.Down id got = few

  few_body : (body : OwnedBody) → Few (sender.deliver s body)
  few_body (packet.Accept jd id) = few_accept s.mode jd id
  few_body (packet.Ack id got) = few_ack s.mode id got
  few_body body = few

  few_asked : (mode : SenderMode) (waiting : List (List ℕ)) → Few (sender.get_ack s mode waiting)
  few_asked sending.Down waiting = few
  few_asked (sending.Quiet true) [] = few
  few_asked (sending.Quiet false) [] = few
  few_asked (sending.Quiet true) (m ∷ waiting) = few
  few_asked (sending.Quiet false) (m ∷ waiting) = few
  few_asked (sending.NeedId jd load) waiting = few
  few_asked (sending.Send id load) waiting = few

  few_recovered : (mode : SenderMode) → Few (sender.recover s mode)
  few_recovered sending.Down = omega arith
  few_recovered (sending.Quiet got) = few
  few_recovered (sending.NeedId jd load) = few
  few_recovered (sending.Send id load) = few

  few_row : (a : Act) → Few (sender.row s a)
  few_row (act.Put m) = few_put s.mode m
  few_row act.Get = few
  few_row act.Ack = few_asked s.mode s.waiting
  few_row (act.Start word) = few_start s.mode s.waiting word few
  few_row (act.Batch word) = few_batch s.mode s.waiting word few
  few_row act.Resend = few_resend s.mode
  few_row (act.Deliver p word) = few_body p.body
  few_row act.Crash = omega arith
  few_row act.Recover = few_recovered s.mode

few_wait : (number : ℕ) (events : List Event) → length (stream_after number events).sender.state.waiting ≤ 16
few_wait number [] = omega arith
few_wait number (e ∷ past) = by (eqb number e.stream) e.side (few_wait number past)
  where
    by : (here : Bool) (side : End) → length (stream_after number past).sender.state.waiting ≤ 16
        → length (after_if here (stream_after number past) (record e { side = side })).sender.state.waiting ≤ 16
    by true Sender before = few_row (stream_after number past).sender.state before e.act
    by true Receiver before = before
    by false side before = before

-- the message of a put, and those of the puts among events, the oldest first
abbrev message_of : Act → List ℕ
message_of (act.Put m) = m
message_of a = []

abbrev messages_of : List Event → List (List ℕ)
messages_of [] = []
messages_of (e ∷ events) = messages_of events ++ message_of e.act ∷ []

-- puts of a stream's sender, each of which was taken
record IsPutOn (number : ℕ) (e : Event) : Type 0 where
  stream : e.stream ≡ number
  side : e.side ≡ Sender
  act_is : e.act ≡ act.Put (message_of e.act)
  reply_is : e.reply ≡ reply.Ok

abbrev ArePutsOn : ℕ → List Event → Type 0
ArePutsOn number [] = Unit {0}
ArePutsOn number (e ∷ events) = IsPutOn number e × ArePutsOn number events

long_messages : (events : List Event) → length (messages_of events) ≡ length events
long_messages [] = refl
long_messages (e ∷ events) = let more = long_messages events in let long = length-append (messages_of events) (message_of e.act ∷ []) in omega (arith, more, long)

-- a sender at rest, at which so many puts were taken and wait
record Waits (s : sender.SenderState) (p : Puts) (messages : List (List ℕ)) : Type 0 where
  mode : unanswered s.mode ≡ sending.Quiet true
  waiting : s.waiting ≡ messages
  count : p.count ≡ length messages

-- one put more
module _ (s : Stream) (p : Puts) (messages : List (List ℕ)) (waits : Waits s.sender.state p messages) (fits : length messages < 16) (m : List ℕ) where
  quiet : (mode : SenderMode) → unanswered mode ≡ sending.Quiet true → (got : Bool) × (mode ≡ sending.Quiet got)
  quiet (sending.Quiet got) is = (got, refl)
  quiet (sending.NeedId jd load) is = absurd cc
  quiet (sending.Send id load) is = absurd cc
  quiet sending.Down is = absurd cc

  room : eqb (length s.sender.state.waiting) 16 ≡ false
  room = elim (eqb_tells (length s.sender.state.waiting) 16) [
    | inl e ↦ let long = ap length waits.waiting in let full = e.1 in absurd (omega (arith, long, full, fits))
    | inr e ↦ e.0
  ]

  row_is : (got : Bool) → sender.put s.sender.state (sending.Quiet got) m ≡ silent (record s.sender.state { waiting = s.sender.state.waiting ++ m ∷ [] }) reply.Ok
  row_is got = ap (λ (b : Bool). if b then silent s.sender.state reply.Full else silent (record s.sender.state { waiting = s.sender.state.waiting ++ m ∷ [] }) reply.Ok) room

  put_row : sender.row s.sender.state (act.Put m) ≡ silent (record s.sender.state { waiting = s.sender.state.waiting ++ m ∷ [] }) reply.Ok
  put_row =
      let (got, is) = quiet s.sender.state.mode waits.mode in
      ap (λ (mode : SenderMode). sender.put s.sender.state mode m) is ∙ row_is got

  one_waits : Waits (after s Sender (act.Put m)).sender.state (acted s Sender (act.Put m) p) (messages ++ m ∷ [])
  one_waits =
      subst (λ (r : Row sender.SenderState). Waits r.state (sender_moved s.sender.state.mode r.state.mode (called (act.Put m) r.reply p)) (messages ++ m ∷ [])) (sym put_row)
      (record {
        mode = waits.mode;
        waiting = ap (λ (ms : List (List ℕ)). ms ++ m ∷ []) waits.waiting;
        count = let stays = same_count s.sender.state.mode (with_put p) in let before = waits.count in let long = length-append messages (m ∷ []) in omega (arith, stays, before, long);
      })
    where
      same_count : (mode : SenderMode) (q : Puts) → (sender_moved mode mode q).count ≡ q.count
      same_count (sending.Quiet got) q = refl
      same_count (sending.NeedId jd load) q = refl
      same_count (sending.Send id load) q = refl
      same_count sending.Down q = refl

  put_right : reply_of s Sender (act.Put m) ≡ Some reply.Ok
  put_right = ap (λ (r : Row sender.SenderState). r.reply) put_row

-- behind an event of the stream's sender
module _ (number : ℕ) (e : Event) (past : List Event) (own : e.stream ≡ number) (side : e.side ≡ Sender) where
  pub behind : (Holds : sender.SenderState → Puts → Type 0) (a : Act) → e.act ≡ a
      → Holds (after (stream_after number past) Sender a).sender.state (acted (stream_after number past) Sender a (puts_after number past))
      → Holds (stream_after number (e ∷ past)).sender.state (puts_after number (e ∷ past))
  behind Holds a is holds =
      let s = stream_after number past in
      let p = puts_after number past in
      subst (λ (b : Bool). Holds (after_if b s e).sender.state (acted_if b s e p)) (sym (eq-eqb number e.stream (sym own)))
      (subst (λ (x : End). Holds (after s x e.act).sender.state (acted s x e.act p)) (sym side)
      (subst (λ (b : Act). Holds (after s Sender b).sender.state (acted s Sender b p)) (sym is) holds))

-- puts alone
puts_wait : (number : ℕ) (events : List Event) → ArePutsOn number events → length events ≤ 16
    → Waits (stream_after number events).sender.state (puts_after number events) (messages_of events) × ArePutsRight events
puts_wait number [] are few = (record { mode = refl; waiting = refl; count = refl }, tt)
puts_wait number (e ∷ events) (is, are) few =
    let fewer : length events ≤ 16 = omega (arith, few) in
    let (waits, right) = puts_wait number events are fewer in
    let long = long_messages events in
    let fits : length (messages_of events) < 16 = omega (arith, long, few) in
    let m = message_of e.act in (
      behind number e events is.stream is.side (λ s p. Waits s p (messages_of events ++ m ∷ [])) (act.Put m) is.act_is (one_waits (stream_after number events) (puts_after number events) (messages_of events) waits fits m),
      (
        λ other same.
            subst (λ (n : ℕ). reply_of (stream_after n events) e.side e.act ≡ Some e.reply) (sym is.stream)
            (subst (λ (x : End). reply_of (stream_after number events) x e.act ≡ Some e.reply) (sym is.side)
            (subst (λ (a : Act). reply_of (stream_after number events) Sender a ≡ Some e.reply) (sym is.act_is)
            (put_right (stream_after number events) (puts_after number events) (messages_of events) waits fits m ∙ ap (λ (r : Reply). Some r) (sym is.reply_is)))),
        right,
      ),
    )

-- the puts among events that are puts alone, and the newest of these
pure_puts : (number : ℕ) (events : List Event) → ArePutsOn number events → filter is_taken events ≡ events
pure_puts number [] are = refl
pure_puts number (e ∷ events) (is, are) = by (is_taken e) taken (pure_puts number events are)
  where
    taken : is_taken e ≡ true
    taken = ap (λ (a : Act). is_put a e.reply) is.act_is ∙ ap (is_put (act.Put (message_of e.act))) is.reply_is

    by : (b : Bool) → b ≡ true → filter is_taken events ≡ events → (if b then e ∷ filter is_taken events else filter is_taken events) ≡ e ∷ events
    by true is same = ap (λ (es : List Event). e ∷ es) same
    by false is same = absurd cc

newest_are : (number many : ℕ) (events : List Event) → ArePutsOn number events → ArePutsOn number (take many events)
newest_are number zero events are = tt
newest_are number (suc many) [] are = tt
newest_are number (suc many) (e ∷ events) are = (are.0, newest_are number many events are.1)

drop_push : {X : Type 0} (many : ℕ) (xs : List X) (x : X) → many ≤ length xs → drop many (xs ++ x ∷ []) ≡ drop many xs ++ x ∷ []
drop_push zero xs x less = refl
drop_push (suc many) [] x less = absurd (omega (arith, less))
drop_push (suc many) (y ∷ xs) x less = drop_push many xs x (omega (arith, less))

drop_all : {X : Type 0} (many : ℕ) (xs : List X) → length xs ≤ many → drop many xs ≡ []
drop_all zero [] less = refl
drop_all zero (x ∷ xs) less = absurd (omega (arith, less))
drop_all (suc many) [] less = refl
drop_all (suc many) (x ∷ xs) less = drop_all many xs (omega (arith, less))

drop_front : {X : Type 0} (xs ys : List X) → drop (length xs) (xs ++ ys) ≡ ys
drop_front [] ys = refl
drop_front (x ∷ xs) ys = drop_front xs ys

less_or_all : (m n : ℕ) → (m ≤ n) ⊎ (n + 1 ≤ m)
less_or_all zero n = inl (omega arith)
less_or_all (suc m) zero = inr (omega arith)
less_or_all (suc m) (suc n) = elim (less_or_all m n) [ inl less ↦ inl (omega (arith, less)) | inr more ↦ inr (omega (arith, more)) ]

newest_of_more : (many : ℕ) (e : Event) (events : List Event) → messages_of (take (length events - many) events) ≡ drop many (messages_of events) → (many ≤ length events) ⊎ (length events + 1 ≤ many)
    → messages_of (take (length (e ∷ events) - many) (e ∷ events)) ≡ drop many (messages_of (e ∷ events))
newest_of_more many e events before (inl less) =
    let one : length (e ∷ events) - many ≡ suc (length events - many) = omega (arith, less) in
    let long = long_messages events in
    ap (λ (n : ℕ). messages_of (take n (e ∷ events))) one
    ∙ ap (λ (ms : List (List ℕ)). ms ++ message_of e.act ∷ []) before
    ∙ sym (drop_push many (messages_of events) (message_of e.act) (omega (arith, long, less)))
newest_of_more many e events before (inr more) =
    let none : length (e ∷ events) - many ≡ 0 = omega (arith, more) in
    let long = long_messages (e ∷ events) in
    ap (λ (n : ℕ). messages_of (take n (e ∷ events))) none ∙ sym (drop_all many (messages_of (e ∷ events)) (omega (arith, long, more)))

take_none : (many : ℕ) → take {A = Event} many [] ≡ []
take_none zero = refl
take_none (suc many) = refl

newest_messages : (many : ℕ) (events : List Event) → messages_of (take (length events - many) events) ≡ drop many (messages_of events)
newest_messages many [] = ap messages_of (take_none (length {A = Event} [] - many)) ∙ sym (drop_all many [] (omega arith))
newest_messages many (e ∷ events) = newest_of_more many e events (newest_messages many events) (less_or_all many (length events))

-- a list of open events brings a sender that is up to this mode, with these messages that wait
record Opens (number : ℕ) (kept : List Event) (mode : SenderMode) (waiting : List (List ℕ)) : Type 0 where
  same : unanswered (stream_after number kept).sender.state.mode ≡ unanswered mode
  messages : (stream_after number kept).sender.state.waiting ≡ waiting
  count : (puts_after number kept).count ≡ length (sender.held_by mode) + length waiting
  puts : messages_of (filter is_taken kept) ≡ sender.held_by mode ++ waiting
  are : ArePutsOn number (filter is_taken kept)
  right : ArePutsRight kept

-- and one that is down has none
record IsOpened (number : ℕ) (kept : List Event) (mode : SenderMode) (waiting : List (List ℕ)) : Type 0 where
  up : sender.is_down mode ≡ false → Opens number kept mode waiting
  down : sender.is_down mode ≡ true → (kept ≡ []) × (waiting ≡ [])

up_alone : (number : ℕ) (kept : List Event) (mode : SenderMode) (waiting : List (List ℕ)) → sender.is_down mode ≡ false → Opens number kept mode waiting → IsOpened number kept mode waiting
up_alone number kept mode waiting up opens = record { up = λ is. opens; down = λ is. absurd (differ (sym is ∙ up)) }
  where
    differ : true ≡ false → ⊥
    differ e = cc

down_alone : (number : ℕ) → IsOpened number [] sending.Down []
down_alone number = record { up = λ is. absurd (differ is); down = λ is. (refl, refl) }
  where
    differ : true ≡ false → ⊥
    differ e = cc

-- whether a put is taken
untaken : (a : Act) (r : Option Reply) (x : Reply) (p : Puts) → ((m : List ℕ) → a ≡ act.Put m → r ≡ Some x) → called a r p ≡ p → is_put a x ≡ false
untaken (act.Put m) r reply.Ok p right same =
    let more : p.count + 1 ≡ p.count = ap (λ (q : Puts). q.count) (ap (λ (o : Option Reply). called (act.Put m) o p) (sym (right m refl)) ∙ same) in
    absurd (omega (arith, more))
untaken (act.Put m) r x p right same = refl
untaken a r x p right same = refl

-- one event of the stream's sender
module _ (number : ℕ) (e : Event) (kept : List Event) (own : e.stream ≡ number) (side : e.side ≡ Sender) where
  abbrev s' : sender.SenderState
  s' = (stream_after number kept).sender.state

  -- what it makes of the sender that the list brought here is what it makes of the other one
  record GoesAlike (now : SenderMode) (left : List (List ℕ)) (r : Option Reply) : Type 0 where
    mode : unanswered (sender.row s' e.act).state.mode ≡ unanswered now
    messages : (sender.row s' e.act).state.waiting ≡ left
    replies : (q : Puts) → called e.act (sender.row s' e.act).reply q ≡ called e.act r q
    answers : (m : List ℕ) → e.act ≡ act.Put m → (sender.row s' e.act).reply ≡ Some e.reply

  abbrev Steps : OfRows
  Steps mode waiting p a r now left q =
      e.act ≡ a → ((m : List ℕ) → a ≡ act.Put m → r ≡ Some e.reply) → length waiting ≤ 16 → (sender.is_down mode ≡ false → GoesAlike now left r)
      → IsOpened number kept mode waiting → IsOpened number (opened_by mode now e kept) now left

  -- where it is one more
  one_more : (now : SenderMode) (left : List (List ℕ)) (r : Option Reply) → GoesAlike now left r → ArePutsRight kept
      → (called e.act r (puts_after number kept)).count ≡ length (sender.held_by now) + length left
      → messages_of (filter is_taken (e ∷ kept)) ≡ sender.held_by now ++ left → ArePutsOn number (filter is_taken (e ∷ kept)) → Opens number (e ∷ kept) now left
  one_more now left r alike right count puts are = record {
    same = behind number e kept own side (λ s p. unanswered s.mode ≡ unanswered now) e.act refl alike.mode;
    messages = behind number e kept own side (λ s p. s.waiting ≡ left) e.act refl alike.messages;
    count = behind number e kept own side (λ s p. p.count ≡ length (sender.held_by now) + length left) e.act refl
        (moves s'.mode (sender.row s' e.act).state.mode (called e.act (sender.row s' e.act).reply (puts_after number kept))
        ∙ ap (λ (q : Puts). q.count) (alike.replies (puts_after number kept)) ∙ count);
    puts = puts;
    are = are;
    right = (
      (λ m is.
          subst (λ (n : ℕ). reply_of (stream_after n kept) e.side e.act ≡ Some e.reply) (sym own)
          (subst (λ (x : End). reply_of (stream_after number kept) x e.act ≡ Some e.reply) (sym side) (alike.answers m is))),
      right,
    );
  }
    where
      moves : (before now : SenderMode) (p : Puts) → (sender_moved before now p).count ≡ p.count
      moves (sending.Quiet got) (sending.NeedId jd load) p = refl
      moves (sending.NeedId jd load) (sending.Send id sent) p = refl
      moves before sending.Down p = refl
      moves before now p = refl

  -- an event that is no put
  filtered : is_taken e ≡ false → filter is_taken (e ∷ kept) ≡ filter is_taken kept
  filtered not = by (is_taken e) not
    where
      by : (b : Bool) → b ≡ false → (if b then e ∷ filter is_taken kept else filter is_taken kept) ≡ filter is_taken kept
      by true is = absurd cc
      by false is = refl

  none_more : (now : SenderMode) (left : List (List ℕ)) (r : Option Reply) → GoesAlike now left r → is_taken e ≡ false → ((q : Puts) → called e.act r q ≡ q)
      → (mode : SenderMode) (waiting : List (List ℕ)) → Opens number kept mode waiting → sender.held_by mode ++ waiting ≡ sender.held_by now ++ left → Opens number (e ∷ kept) now left
  none_more now left r alike not calls mode waiting opens same =
      one_more now left r alike opens.right
      (let before = opens.count in
      let one = ap (λ (q : Puts). q.count) (calls (puts_after number kept)) in
      let long = ap length same in
      let mine = length-append (sender.held_by mode) waiting in
      let its = length-append (sender.held_by now) left in
      omega (arith, before, one, long, mine, its))
      (ap messages_of (filtered not) ∙ opens.puts ∙ same)
      (subst (ArePutsOn number) (sym (filtered not)) opens.are)

  stays_open : (mode : SenderMode) → sender.is_down mode ≡ false → is_taken e ≡ false → kept ≡ opened_by mode mode e kept
  stays_open (sending.Quiet got) up not = sym (ap (λ (b : Bool). if b then e ∷ kept else kept) not)
  stays_open (sending.NeedId jd load) up not = sym (ap (λ (b : Bool). if b then e ∷ kept else kept) not)
  stays_open (sending.Send id load) up not = sym (ap (λ (b : Bool). if b then e ∷ kept else kept) not)
  stays_open sending.Down up not = absurd (differ up)
    where
      differ : true ≡ false → ⊥
      differ is = cc

  one_open : (mode : SenderMode) → sender.is_down mode ≡ false → is_taken e ≡ true → e ∷ kept ≡ opened_by mode mode e kept
  one_open (sending.Quiet got) up is = sym (ap (λ (b : Bool). if b then e ∷ kept else kept) is)
  one_open (sending.NeedId jd load) up is = sym (ap (λ (b : Bool). if b then e ∷ kept else kept) is)
  one_open (sending.Send id load) up is = sym (ap (λ (b : Bool). if b then e ∷ kept else kept) is)
  one_open sending.Down up is = absurd (differ up)
    where
      differ : true ≡ false → ⊥
      differ same = cc

  forgets : (mode : SenderMode) → [] ≡ opened_by mode sending.Down e kept
  forgets (sending.Quiet got) = refl
  forgets (sending.NeedId jd load) = refl
  forgets (sending.Send id load) = refl
  forgets sending.Down = refl

  step_puts : (mode : SenderMode) (waiting : List (List ℕ)) (p : Puts) (m : List ℕ) → sender.is_down mode ≡ false
      → Steps mode waiting p (act.Put m) (Some reply.Ok) mode (waiting ++ m ∷ []) (with_put p)
  step_puts mode waiting p m up is right few alike inv =
      subst (λ (es : List Event). IsOpened number es mode (waiting ++ m ∷ [])) (one_open mode up taken)
      (up_alone number (e ∷ kept) mode (waiting ++ m ∷ []) up (one_more mode (waiting ++ m ∷ []) (Some reply.Ok) (alike up) opens.right
      (let before = opens.count in
      let long = length-append waiting (m ∷ []) in
      let one : (called e.act (Some reply.Ok) (puts_after number kept)).count ≡ (puts_after number kept).count + 1 = ap (λ (a : Act). (called a (Some reply.Ok) (puts_after number kept)).count) is in
      omega (arith, before, long, one))
      (ap messages_of here
      ∙ ap (λ (ms : List (List ℕ)). ms ++ message_of e.act ∷ []) opens.puts
      ∙ ap (λ (x : List ℕ). (sender.held_by mode ++ waiting) ++ x ∷ []) message
      ∙ append_assoc (sender.held_by mode) waiting (m ∷ []))
      (subst (ArePutsOn number) (sym here) (record { stream = own; side = side; act_is = is ∙ ap act.Put (sym message); reply_is = ok }, opens.are))))
    where
      opens : Opens number kept mode waiting
      opens = inv.up up

      ok : e.reply ≡ reply.Ok
      ok = by (right m refl)
        where
          by : Some reply.Ok ≡ Some e.reply → e.reply ≡ reply.Ok
          by same = cc

      message : message_of e.act ≡ m
      message = ap message_of is

      taken : is_taken e ≡ true
      taken = ap (λ (a : Act). is_put a e.reply) is ∙ ap (is_put (act.Put m)) ok

      here : filter is_taken (e ∷ kept) ≡ e ∷ filter is_taken kept
      here = by (is_taken e) taken
        where
          by : (b : Bool) → b ≡ true → (if b then e ∷ filter is_taken kept else filter is_taken kept) ≡ e ∷ filter is_taken kept
          by true is = refl
          by false is = absurd cc

  step_acked : (under got_id k word : ℕ) (load : Payload) (got : Bool) (waiting : List (List ℕ)) → length waiting ≤ 16 → IsOpened number kept (sending.Send under load) waiting
      → IsOpened number (later_puts (length (sender.messages_in load)) kept) (sending.Quiet got) waiting
  step_acked under got_id k word load got waiting few inv =
      up_alone number left (sending.Quiet got) waiting refl (record {
        same = waits.0.mode;
        messages = waits.0.waiting ∙ messages;
        count = let one = waits.0.count in let long = ap length messages in omega (arith, one, long);
        puts = ap messages_of (pure_puts number left are) ∙ messages;
        are = subst (ArePutsOn number) (sym (pure_puts number left are)) are;
        right = waits.1;
      })
    where
      opens : Opens number kept (sending.Send under load) waiting
      opens = inv.up refl

      left : List Event
      left = later_puts (length (sender.messages_in load)) kept

      are : ArePutsOn number left
      are = newest_are number (length (filter is_taken kept) - length (sender.messages_in load)) (filter is_taken kept) opens.are

      messages : messages_of left ≡ waiting
      messages =
          newest_messages (length (sender.messages_in load)) (filter is_taken kept)
          ∙ ap (drop (length (sender.messages_in load))) opens.puts ∙ drop_front (sender.messages_in load) waiting

      waits : Waits (stream_after number left).sender.state (puts_after number left) (messages_of left) × ArePutsRight left
      waits = puts_wait number left are (let long = long_messages left in let same = ap length messages in omega (arith, long, same, few))

  steps : HoldOfChanges Steps
  steps = record {
    stays = λ mode waiting p a r up same is right few alike inv.
        subst (λ (es : List Event). IsOpened number es mode waiting)
        (stays_open mode up (ap (λ (b : Act). is_put b e.reply) is ∙ untaken a r e.reply p right same)) inv;
    stays_down = λ waiting p a r is right few alike inv.
        subst (λ (es : List Event). IsOpened number es sending.Down waiting) (forgets sending.Down)
        (subst (IsOpened number [] sending.Down) (sym (inv.down refl).1) (down_alone number));
    puts = step_puts;
    starts = λ got m rest word p is right few alike inv.
        up_alone number (e ∷ kept) (sending.NeedId word (payload.Message m)) rest refl
        (none_more (sending.NeedId word (payload.Message m)) rest (Some reply.Done) (alike refl) (ap (λ (b : Act). is_put b e.reply) is)
        (λ q. ap (λ (b : Act). called b (Some reply.Done) q) is) (sending.Quiet got) (m ∷ rest) (inv.up refl) refl);
    starts_batch = λ got m rest word p is right few alike inv.
        let load = payload.Batch (record { first = m; rest = take 3 rest }) in
        up_alone number (e ∷ kept) (sending.NeedId word load) (drop 3 rest) refl
        (none_more (sending.NeedId word load) (drop 3 rest) (Some reply.Done) (alike refl) (ap (λ (b : Act). is_put b e.reply) is)
        (λ q. ap (λ (b : Act). called b (Some reply.Done) q) is) (sending.Quiet got) (m ∷ rest) (inv.up refl)
        (ap (λ (ms : List (List ℕ)). m ∷ ms) (sym (take-append-drop 3 rest))));
    sends = λ asked jd id k word load waiting p same is right few alike inv.
        up_alone number (e ∷ kept) (sending.Send id load) waiting refl
        (none_more (sending.Send id load) waiting (Some reply.Done) (alike refl) (ap (λ (b : Act). is_put b e.reply) is)
        (λ q. ap (λ (b : Act). called b (Some reply.Done) q) is) (sending.NeedId asked load) waiting (inv.up refl) refl);
    acked = λ id under k word load got waiting p is right few alike inv. step_acked under id k word load got waiting few inv;
    crashes = λ mode waiting p is right few alike inv.
        subst (λ (es : List Event). IsOpened number es sending.Down []) (forgets mode) (down_alone number);
    recovers = λ waiting p is right few alike inv.
        up_alone number (opened_by sending.Down (sending.Quiet false) e kept) (sending.Quiet false) [] refl
        (subst (λ (es : List Event). Opens number es (sending.Quiet false) []) (sym (recovered is ∙ (inv.down refl).0))
        (record { same = refl; messages = refl; count = refl; puts = refl; are = tt; right = tt }));
  }
    where
      recovered : e.act ≡ act.Recover → opened_by sending.Down (sending.Quiet false) e kept ≡ kept
      recovered is = ap (λ (b : Bool). if b then e ∷ kept else kept) (ap (λ (a : Act). is_put a e.reply) is)

-- so does each event more
module _ (number : ℕ) (e : Event) (past kept : List Event) (right : HasRightPut past e)
    (inv : IsOpened number kept (stream_after number past).sender.state.mode (stream_after number past).sender.state.waiting) where
  abbrev s : Stream
  s = stream_after number past

  right_here : e.stream ≡ number → e.side ≡ Sender → (m : List ℕ) → e.act ≡ act.Put m → reply_of s Sender e.act ≡ Some e.reply
  right_here own side m is =
      subst (λ (x : End). reply_of s x e.act ≡ Some e.reply) side (subst (λ (n : ℕ). reply_of (stream_after n past) e.side e.act ≡ Some e.reply) own (right m is))

  alike_here : (own : e.stream ≡ number) (side : e.side ≡ Sender) → sender.is_down s.sender.state.mode ≡ false
      → GoesAlike number e kept own side (sender.row s.sender.state e.act).state.mode (sender.row s.sender.state e.act).state.waiting (sender.row s.sender.state e.act).reply
  alike_here own side up =
      let opens = inv.up up in
      let mine = (stream_after number kept).sender.state in
      let rows = rows_alike mine s.sender.state e.act (of_number number kept ∙ sym (of_number number past)) opens.same opens.messages in record {
        mode = rows.mode;
        messages = rows.messages;
        replies = rows.replies;
        answers = λ m is.
            ap (λ (a : Act). (sender.row mine a).reply) is ∙ same_put_answer mine s.sender.state m opens.same opens.messages
            ∙ sym (ap (λ (a : Act). (sender.row s.sender.state a).reply) is) ∙ right_here own side m is;
      }

  at_side : (x : End) → e.stream ≡ number → e.side ≡ x → IsOpened number (opened_at x s e kept) (after s x e.act).sender.state.mode (after s x e.act).sender.state.waiting
  at_side Receiver own side = inv
  at_side Sender own side =
      by_rows (Steps number e kept own side) (steps number e kept own side) s.sender.state.stream s.sender.state.mode s.sender.state.waiting (puts_after number past) e.act refl
      (right_here own side) (few_wait number past) (alike_here own side) inv

  event_opened : (here : Bool) → (here ≡ true → e.stream ≡ number) → IsOpened number (opened_if here s e kept) (after_if here s e).sender.state.mode (after_if here s e).sender.state.waiting
  event_opened true own = at_side e.side (own refl) refl
  event_opened false own = inv

opened : (number : ℕ) (events : List Event) → ArePutsRight events → IsOpened number (open_events number events) (stream_after number events).sender.state.mode (stream_after number events).sender.state.waiting
opened number [] right = up_alone number [] (sending.Quiet true) [] refl (record { same = refl; messages = refl; count = refl; puts = refl; are = tt; right = tt })
opened number (e ∷ past) right =
    event_opened number e past (open_events number past) right.0 (opened number past right.1) (eqb number e.stream) (λ is. sym (eqb-true number e.stream is))

module _ (number : ℕ) (events : List Event) (right : ArePutsRight events) (up : sender.is_down (stream_after number events).sender.state.mode ≡ false) where
  opens : Opens number (open_events number events) (stream_after number events).sender.state.mode (stream_after number events).sender.state.waiting
  opens = (opened number events right).up up

  pub open_brings : BringsTo number (open_events number events) events
  open_brings =
      let mode' = (stream_after number (open_events number events)).sender.state.mode in
      let mode = (stream_after number events).sender.state.mode in record {
        mode = opens.same;
        messages = opens.messages;
        puts =
            let count = opens.count in
            let held = held_unanswered mode' ∙ ap (λ (m : SenderMode). length (sender.held_by m)) opens.same ∙ sym (held_unanswered mode) in
            let long = ap length opens.messages in
            omega (arith, count, held, long);
      }

  pub open_right : ArePutsRight (open_events number events)
  open_right = opens.right
