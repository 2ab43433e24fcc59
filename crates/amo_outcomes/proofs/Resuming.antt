-- Events that go on from a list of earlier ones tell of their puts what they tell behind all of those.
use Rattle.std.proofs.Common.{◌≡◌, ℕ, ◌+◌, ◌-◌, ◌≤◌, Bool, true, false, ◌&&◌, eqb, if◌then◌else◌, Some, List, [], ◌∷◌, ◌++◌, append_assoc, length, refl, sym, ◌∙◌, ap, subst, inl, inr, ◌⊎◌, arith}
use Rattle.std.proofs.lemmas.Bool.{eq-eqb}
use Rattle.amo_object.specs.declared.step.End.{End}
use Rattle.amo_object.specs.declared.step.End.TheVariants.{Sender, Receiver}
use Rattle.amo_core.specs.declared.act.Act.{Act}
use Rattle.amo_core.specs.declared.act.Act.TheVariants as act
use Rattle.amo_core.specs.declared.reply.Reply.TheVariants as reply
use Rattle.amo_core.specs.Row.{silent}
use Rattle.amo_core.specs.Sender as sender
use Rattle.amo_core.specs.declared.sender.SenderMode.{SenderMode}
use Rattle.amo_core.specs.declared.sender.SenderMode.TheVariants as sending
use Rattle.amo_world.specs.declared.event.Event.{Event}
use Rattle.amo_world.specs.Stream.{Stream, after, reply_of}
use Rattle.amo_world.specs.History.{IsRight, after_if, event_if, events_at, is_same_side, stream_after}
use Rattle.amo_outcomes.specs.declared.sender_outcome.SenderOutcome.{SenderOutcome}
use Rattle.amo_outcomes.specs.Puts.{Puts, sender_moved, acted, acted_if, puts_after}
use Rattle.amo_outcomes.specs.SenderOutcome.{HasSenderOutcome}
use Rattle.amo_outcomes.specs.RightPuts.{ArePutsRightOn, HasRightPut}
use Rattle.amo_outcomes.specs.StandsFor.{BringsTo, GoesOnFrom, IsCrashOf, StandsFor, more_puts, unanswered}
use Rattle.amo_outcomes.proofs.SenderAlone.{Alone, of_puts_of_sender, same_alone}
use Rattle.amo_outcomes.proofs.OpenPuts.{open_stands}
use Rattle.amo_outcomes.proofs.StandsFor.{stands_on, tells_so}

-- the events of a side, of two lists of which one stands behind the other
pub events_append : (number : ℕ) (side : End) (xs ys : List Event) → events_at number side (xs ++ ys) ≡ events_at number side xs ++ events_at number side ys
events_append number side [] ys = refl
events_append number side (x ∷ xs) ys = by (eqb number x.stream && is_same_side side x.side) (events_append number side xs ys)
  where
    by : (b : Bool) → events_at number side (xs ++ ys) ≡ events_at number side xs ++ events_at number side ys
        → event_if b x (events_at number side (xs ++ ys)) ≡ event_if b x (events_at number side xs) ++ events_at number side ys
    by true same = ap (λ (es : List Event). x ∷ es) same
    by false same = same

pub none_of_both : (number : ℕ) (xs ys : List Event) → events_at number Sender xs ≡ [] → events_at number Sender ys ≡ [] → events_at number Sender (xs ++ ys) ≡ []
none_of_both number xs ys one other =
    events_append number Sender xs ys ∙ ap (λ (es : List Event). es ++ events_at number Sender ys) one ∙ other

-- where the sender did nothing, nothing was put
pub no_puts : (number : ℕ) (events : List Event) → events_at number Sender events ≡ [] → (puts_after number events).count ≡ 0
no_puts number events idle = ap (λ (x : Alone). x.count) (same_alone number events [] idle)

-- a sender that crashed
record Crashed (before : Puts) (s : sender.SenderState) (p : Puts) : Type 0 where
  mode : s.mode ≡ sending.Down
  messages : s.waiting ≡ []
  count : p.count ≡ before.count

crashed_at : (s : Stream) (p : Puts) → Crashed p (after s Sender act.Crash).sender.state (acted s Sender act.Crash p)
crashed_at s p = record { mode = refl; messages = refl; count = by s.sender.state.mode }
  where
    by : (mode : SenderMode) → (sender_moved mode sending.Down p).count ≡ p.count
    by (sending.Quiet got) = refl
    by (sending.NeedId jd load) = refl
    by (sending.Send id load) = refl
    by sending.Down = refl

crashed : (number : ℕ) (e : Event) (past : List Event) → IsCrashOf number e → Crashed (puts_after number past) (stream_after number (e ∷ past)).sender.state (puts_after number (e ∷ past))
crashed number e past (own, side, is) = by (stream_after number past) (puts_after number past)
  where
    by : (s : Stream) (p : Puts) → Crashed p (after_if (eqb number e.stream) s e).sender.state (acted_if (eqb number e.stream) s e p)
    by s p =
        subst (λ (b : Bool). Crashed p (after_if b s e).sender.state (acted_if b s e p)) (sym (eq-eqb number e.stream (sym own)))
        (subst (λ (x : End). Crashed p (after s x e.act).sender.state (acted s x e.act p)) (sym side)
        (subst (λ (a : Act). Crashed p (after s Sender a).sender.state (acted s Sender a p)) (sym is) (crashed_at s p)))

pub crash_brings : (number : ℕ) (e : Event) (part whole : List Event) → IsCrashOf number e → events_at number Sender part ≡ [] → BringsTo number (e ∷ part) (e ∷ whole)
crash_brings number e part whole is idle =
    let mine = crashed number e part is in
    let its = crashed number e whole is in record {
      mode = ap unanswered (mine.mode ∙ sym its.mode);
      messages = mine.messages ∙ sym its.messages;
      puts =
          let none = no_puts number part idle in
          let held : length (sender.held_by (stream_after number (e ∷ part)).sender.state.mode) ≡ 0 = ap (λ (m : SenderMode). length (sender.held_by m)) mine.mode in
          let waiting : length (stream_after number (e ∷ part)).sender.state.waiting ≡ 0 = ap length mine.messages in
          let count = mine.count in
          omega (arith, none, held, waiting, count);
    }

-- a history that is brought to the same, behind more events
brought : (number : ℕ) (newer part whole : List Event) → BringsTo number part whole → (many : ℕ) × StandsFor number many (newer ++ part) (newer ++ whole)
brought number newer part whole brings =
    let many = (puts_after number whole).count - (puts_after number part).count in
    (many, stands_on number many newer part whole (open_stands number part whole brings.mode brings.messages brings.puts))

pub resumed : (number : ℕ) (newer listed all : List Event) → GoesOnFrom number newer listed all
    → (events_at number Sender (newer ++ listed) ≡ []) ⊎ ((many : ℕ) × StandsFor number many (newer ++ listed) (newer ++ all))
resumed number newer listed all (inl brings) = inr (brought number newer listed all brings)
resumed number newer listed all (inr (none, inl idle)) = inl (none_of_both number newer listed idle none)
resumed number newer listed all (inr (none, inr (later, crash, older, is, crashes, idle))) =
    let split = λ (es : List Event). append_assoc later (crash ∷ older) es in
    let (many, stands) = brought number later (crash ∷ (older ++ listed)) (crash ∷ (older ++ all)) (crash_brings number crash (older ++ listed) (older ++ all) crashes (none_of_both number older listed idle none)) in
    inr (
      many,
      subst (λ (es : List Event). StandsFor number many (es ++ listed) (es ++ all)) (sym is)
          (subst (λ (es : List Event). StandsFor number many es ((later ++ crash ∷ older) ++ all)) (sym (split listed))
          (subst (λ (es : List Event). StandsFor number many (later ++ crash ∷ (older ++ listed)) es) (sym (split all)) stands)),
    )

module _ (number : ℕ) (newer listed all : List Event) (goes_on : GoesOnFrom number newer listed all) where
  abbrev part : List Event
  part = newer ++ listed

  abbrev whole : List Event
  whole = newer ++ all

  pub resumed_told : (put : ℕ) (outcome : SenderOutcome) → HasSenderOutcome number part put outcome → HasSenderOutcome number whole (more_puts number part whole + put) outcome
  resumed_told put outcome has = elim (resumed number newer listed all goes_on) [
    | inl idle ↦ let less = of_puts_of_sender number part put outcome has in let nothing = no_puts number part idle in absurd (omega (arith, less, nothing))
    | inr stands ↦ subst (λ (n : ℕ). HasSenderOutcome number whole (n + put) outcome) (let count = stands.1.count in omega (arith, count)) (tells_so number stands.0 part whole stands.1 put outcome has)
  ]

  pub resumed_count : (put : ℕ) → (puts_after number part).count ≤ put → (puts_after number whole).count ≤ more_puts number part whole + put
  resumed_count put less = omega (arith, less)

-- whether a put is taken
put_answer : (s : sender.SenderState) (mode : SenderMode) (m : List ℕ)
    → (sender.put s mode m).reply ≡ (if sender.is_down mode then Some reply.Down else (if eqb (length s.waiting) 16 then Some reply.Full else Some reply.Ok))
put_answer s sending.Down m = refl
put_answer s (sending.Quiet got) m = by (eqb (length s.waiting) 16)
  where
    by : (b : Bool) → (if b then silent s reply.Full else silent (record s { waiting = s.waiting ++ m ∷ [] }) reply.Ok).reply ≡ (if b then Some reply.Full else Some reply.Ok)
    by true = refl
    by false = refl
put_answer s (sending.NeedId jd load) m = by (eqb (length s.waiting) 16)
  where
    by : (b : Bool) → (if b then silent s reply.Full else silent (record s { waiting = s.waiting ++ m ∷ [] }) reply.Ok).reply ≡ (if b then Some reply.Full else Some reply.Ok)
    by true = refl
    by false = refl
put_answer s (sending.Send id load) m = by (eqb (length s.waiting) 16)
  where
    by : (b : Bool) → (if b then silent s reply.Full else silent (record s { waiting = s.waiting ++ m ∷ [] }) reply.Ok).reply ≡ (if b then Some reply.Full else Some reply.Ok)
    by true = refl
    by false = refl

down_unanswered : (mode : SenderMode) → sender.is_down mode ≡ sender.is_down (unanswered mode)
down_unanswered (sending.Quiet got) = refl
down_unanswered (sending.NeedId jd load) = refl
down_unanswered (sending.Send id load) = refl
down_unanswered sending.Down = refl

pub same_put_answer : (s' s : sender.SenderState) (m : List ℕ) → unanswered s'.mode ≡ unanswered s.mode → s'.waiting ≡ s.waiting → (sender.row s' (act.Put m)).reply ≡ (sender.row s (act.Put m)).reply
same_put_answer s' s m mode messages =
    put_answer s' s'.mode m
    ∙ ap (λ (b : Bool). if b then Some reply.Down else (if eqb (length s'.waiting) 16 then Some reply.Full else Some reply.Ok))
    (down_unanswered s'.mode ∙ ap sender.is_down mode ∙ sym (down_unanswered s.mode))
    ∙ ap (λ (w : List (List ℕ)). if sender.is_down s.mode then Some reply.Down else (if eqb (length w) 16 then Some reply.Full else Some reply.Ok)) messages
    ∙ sym (put_answer s s.mode m)

module _ (number many : ℕ) (part whole : List Event) (stands : StandsFor number many part whole) where
  same_answer : (side : End) (m : List ℕ) → reply_of (stream_after number part) side (act.Put m) ≡ reply_of (stream_after number whole) side (act.Put m)
  same_answer Receiver m = refl
  same_answer Sender m = same_put_answer (stream_after number part).sender.state (stream_after number whole).sender.state m stands.mode stands.messages

  right_put : (e : Event) → e.stream ≡ number → HasRightPut whole e → HasRightPut part e
  right_put e own right m is =
      subst (λ (n : ℕ). reply_of (stream_after n part) e.side e.act ≡ Some e.reply) (sym own)
      (subst (λ (a : Act). reply_of (stream_after number part) e.side a ≡ Some e.reply) (sym is)
      (same_answer e.side m
      ∙ subst (λ (a : Act). reply_of (stream_after number whole) e.side a ≡ Some e.reply) is
      (subst (λ (n : ℕ). reply_of (stream_after n whole) e.side e.act ≡ Some e.reply) own (right m is))))

-- puts have their rows' replies behind it too
right_on : (number many : ℕ) (newer part whole : List Event) → StandsFor number many part whole → IsRight (newer ++ whole) → ArePutsRightOn number part → ArePutsRightOn number (newer ++ part)
right_on number many [] part whole stands right right_part = right_part
right_on number many (e ∷ newer) part whole stands right right_part = (
  λ own. right_put number many (newer ++ part) (newer ++ whole) (stands_on number many newer part whole stands) e own (λ m is. right.0),
  right_on number many newer part whole stands right.1 right_part,
)

-- behind events that are none of the sender's
receiver_right : (number : ℕ) (part whole : List Event) (e : Event) → e.side ≡ Receiver → HasRightPut whole e → HasRightPut part e
receiver_right number part whole e side right m is =
    subst (λ (x : End). reply_of (stream_after e.stream part) x e.act ≡ Some e.reply) (sym side)
    (subst (λ (a : Act). reply_of (stream_after e.stream part) Receiver a ≡ Some e.reply) (sym is)
    (subst (λ (a : Act). reply_of (stream_after e.stream whole) Receiver a ≡ Some e.reply) is
    (subst (λ (x : End). reply_of (stream_after e.stream whole) x e.act ≡ Some e.reply) side (right m is))))

idle_right : (number : ℕ) (es part whole : List Event) → events_at number Sender es ≡ [] → IsRight (es ++ whole) → ArePutsRightOn number part → ArePutsRightOn number (es ++ part)
idle_right number [] part whole idle right right_part = right_part
idle_right number (e ∷ es) part whole idle right right_part = (
  λ own. receiver_right number (es ++ part) (es ++ whole) e (by_side own e.side refl) (λ m is. right.0),
  idle_right number es part whole (others (eqb number e.stream && is_same_side Sender e.side) idle) right.1 right_part,
)
  where
    others : (b : Bool) → event_if b e (events_at number Sender es) ≡ [] → events_at number Sender es ≡ []
    others true is = absurd cc
    others false is = is

    by_side : e.stream ≡ number → (side : End) → e.side ≡ side → e.side ≡ Receiver
    by_side own Receiver is = is
    by_side own Sender is = absurd (never
        (subst (λ (x : End). event_if (true && is_same_side Sender x) e (events_at number Sender es) ≡ []) is
        (subst (λ (b : Bool). event_if (b && is_same_side Sender e.side) e (events_at number Sender es) ≡ []) (eq-eqb number e.stream (sym own)) idle)))
      where
        never : e ∷ events_at number Sender es ≡ [] → ⊥
        never same = cc

crash_right : (number : ℕ) (e : Event) (past : List Event) → IsCrashOf number e → HasRightPut past e
crash_right number e past crash m is = absurd (never (sym crash.2 ∙ is))
  where
    never : act.Crash ≡ act.Put m → ⊥
    never same = cc

right_brought : (number : ℕ) (newer part whole : List Event) → BringsTo number part whole → IsRight (newer ++ whole) → ArePutsRightOn number part → ArePutsRightOn number (newer ++ part)
right_brought number newer part whole brings right right_part =
    right_on number ((puts_after number whole).count - (puts_after number part).count) newer part whole (open_stands number part whole brings.mode brings.messages brings.puts) right right_part

later_right : (newer past : List Event) → IsRight (newer ++ past) → IsRight past
later_right [] past right = right
later_right (e ∷ newer) past right = later_right newer past right.1

pub resumed_right : (number : ℕ) (newer listed all : List Event) → GoesOnFrom number newer listed all → IsRight (newer ++ all) → ArePutsRightOn number listed → ArePutsRightOn number (newer ++ listed)
resumed_right number newer listed all (inl brings) right right_part = right_brought number newer listed all brings right right_part
resumed_right number newer listed all (inr (none, inl idle)) right right_part = idle_right number newer listed all idle right right_part
resumed_right number newer listed all (inr (none, inr (later, crash, older, is, crashes, idle))) right right_part =
    let whole : IsRight (later ++ (crash ∷ (older ++ all))) =
    subst IsRight (append_assoc later (crash ∷ older) all) (subst (λ (es : List Event). IsRight (es ++ all)) is right) in
    let behind : IsRight (crash ∷ (older ++ all)) = later_right later (crash ∷ (older ++ all)) whole in
    subst (λ (es : List Event). ArePutsRightOn number (es ++ listed)) (sym is)
    (subst (ArePutsRightOn number) (sym (append_assoc later (crash ∷ older) listed))
    (right_brought number later (crash ∷ (older ++ listed)) (crash ∷ (older ++ all))
    (crash_brings number crash (older ++ listed) (older ++ all) crashes (none_of_both number older listed idle none)) whole
    (λ own. crash_right number crash (older ++ listed) crashes, idle_right number older listed all idle behind.1 right_part)))
