-- What lines tell that go on from a list of earlier ones.
use Rattle.std.proofs.Common.{◌≡◌, ◌∙◌, ◌⊎◌, ℕ, ◌+◌, ◌-◌, Bool, true, false, ◌&&◌, eqb, Option, None, Some, List, [], ◌∷◌, ◌++◌, append_assoc, ap, arith, inl, inr, refl, subst, sym}
use Rattle.std.specs.List.{Contains}
use Rattle.std.proofs.lemmas.List.Elements.{Contains-append_left}
use Rattle.amo_object.specs.declared.step.End.{End}
use Rattle.amo_object.specs.declared.step.End.TheVariants.{Receiver, Sender}
use Rattle.amo_packet.specs.declared.packet.OwnedBody.{OwnedBody}
use Rattle.amo_packet.specs.declared.packet.OwnedBody.TheVariants as packet
use Rattle.amo_core.specs.declared.act.Act.{Act}
use Rattle.amo_core.specs.declared.act.Act.TheVariants as act
use Rattle.amo_core.specs.declared.sender.SenderMode.{SenderMode}
use Rattle.amo_core.specs.declared.sender.SenderMode.TheVariants as sending
use Rattle.amo_core.specs.Sender as sender
use Rattle.amo_world.specs.declared.event.Event.{Event}
use Rattle.amo_world.specs.Stream.{Stream}
use Rattle.amo_world.specs.History.{event_if, events_at, is_same_side, stream_after}
use Rattle.amo_outcomes.specs.declared.sender_outcome.SenderOutcome.{SenderOutcome}
use Rattle.amo_outcomes.specs.declared.sender_outcome.SenderOutcome.TheVariants.{Gone, Got, Open, Unknown}
use Rattle.amo_outcomes.specs.Heard.{Heard, all_sent, heard_act, heard_after, heard_body, heard_by, heard_if, hears, settles}
use Rattle.amo_outcomes.specs.Puts.{Handshake, Puts, puts_after}
use Rattle.amo_outcomes.specs.RightPuts.{ArePutsRight, ArePutsRightOn}
use Rattle.amo_outcomes.specs.SenderOutcome.{HasSenderOutcome}
use Rattle.amo_outcomes.specs.StandsFor.{BringsTo, GoesOnFrom, IsCrashOf, StandsFor, more_puts}
use Rattle.amo_outcomes.proofs.OpenPuts.{none_got, none_settled, open_stands}
use Rattle.amo_outcomes.proofs.Resuming.{crash_brings, no_puts, none_of_both, resumed_count, resumed_right, resumed_told}
use Rattle.amo_outcomes.proofs.SenderAlone.{of_puts_of_sender}
use Rattle.amo_outcomes.proofs.SenderOrder.{WasSent, heard_was_sent, hears_was_sent}
use Rattle.amo_outcomes.proofs.StandsFor.{stands_on, tells_so}
use Rattle.amo_telling.specs.declared.put.Put.{Put}
use Rattle.amo_telling.specs.Unanswered.{is_ack, is_answer}
use Rattle.amo_telling.specs.Untold.{IsAnswered, IsKnownAs, IsKnownByAll, Resumes}

-- right puts are those of each stream
right_on_each : (number : ℕ) (events : List Event) → ArePutsRight events → ArePutsRightOn number events
right_on_each number [] right = tt
right_on_each number (e ∷ past) right = (λ own. right.0, right_on_each number past right.1)

right_on_all : (events : List Event) → ((number : ℕ) → ArePutsRightOn number events) → ArePutsRight events
right_on_all [] right = tt
right_on_all (e ∷ past) right = ((right e.stream).0 refl, right_on_all past (λ number. (right number).1))

-- an ack told of a put, or a later one was sent
abbrev WasHeard : Heard → ℕ → Type 0
WasHeard h put = Contains h.got put ⊎ Contains h.settled put

-- what was heard stays so
heard_of_body : (body : OwnedBody) (sent : List Handshake) (h : Heard) (put : ℕ) → WasHeard h put → WasHeard (heard_body body sent h) put
heard_of_body (packet.Ack id true) sent h put (inl got) = inl (Contains-append_left h.got _ put got)
heard_of_body (packet.Ack id true) sent h put (inr settled) = inr settled
heard_of_body (packet.Ack id false) sent h put (inl got) = inl got
heard_of_body (packet.Ack id false) sent h put (inr settled) = inr (Contains-append_left h.settled _ put settled)
heard_of_body body sent h put was = was

heard_of_act : (a : Act) (sent : List Handshake) (h : Heard) (put : ℕ) → WasHeard h put → WasHeard (heard_act a sent h) put
heard_of_act (act.Deliver p word) sent h put was = heard_of_body p.body sent h put was
heard_of_act a sent h put was = was

heard_in_mode : (mode : SenderMode) (a : Act) (sent : List Handshake) (h : Heard) (put : ℕ) → WasHeard h put → WasHeard (hears mode a sent h) put
heard_in_mode sending.Down a sent h put was = was
heard_in_mode (sending.Quiet got) a sent h put was = heard_of_act a sent h put was
heard_in_mode (sending.NeedId jd load) a sent h put was = heard_of_act a sent h put was
heard_in_mode (sending.Send id load) a sent h put was = heard_of_act a sent h put was

heard_behind_move : (mode now : SenderMode) (sent : List Handshake) (h : Heard) (put : ℕ) → WasSent sent h → WasHeard h put → WasHeard (settles mode now sent h) put
heard_behind_move (sending.NeedId jd asked) (sending.Send id load) sent h put of_sent (inl got) = inl got
heard_behind_move (sending.NeedId jd asked) (sending.Send id load) sent h put of_sent (inr settled) = inr (of_sent.settled put settled)
heard_behind_move mode now sent h put of_sent was = was

heard_by_act : (s : Stream) (side : End) (a : Act) (p : Puts) (h : Heard) (put : ℕ) → WasSent p.sent h → WasHeard h put → WasHeard (heard_by s side a p h) put
heard_by_act s Receiver a p h put of_sent was = was
heard_by_act s Sender a p h put of_sent was =
    heard_behind_move s.sender.state.mode (sender.row s.sender.state a).state.mode p.sent (hears s.sender.state.mode a p.sent h) put
    (hears_was_sent s.sender.state.mode p.sent a h of_sent) (heard_in_mode s.sender.state.mode a p.sent h put was)

heard_more : (number : ℕ) (e : Event) (past : List Event) (put : ℕ) → WasHeard (heard_after number past) put → WasHeard (heard_after number (e ∷ past)) put
heard_more number e past put was = by (eqb number e.stream)
  where
    by : (here : Bool) → WasHeard (heard_if here (stream_after number past) e (puts_after number past) (heard_after number past)) put
    by true = heard_by_act (stream_after number past) e.side e.act (puts_after number past) (heard_after number past) put (heard_was_sent number past) was
    by false = was

answer_heard : (number : ℕ) (past : List Event) (put : ℕ) (outcome : SenderOutcome) → HasSenderOutcome number past put outcome → is_answer outcome ≡ true → WasHeard (heard_after number past) put
answer_heard number past put Got has is = inl has
answer_heard number past put (Unknown true) has is = inr has.0
answer_heard number past put (Unknown false) has is = absurd cc
answer_heard number past put Gone has is = absurd cc
answer_heard number past put Open has is = absurd cc

answered_heard : (number : ℕ) (events : List Event) (put : ℕ) → IsAnswered number events put → WasHeard (heard_after number events) put
answered_heard number [] put never = absurd never
answered_heard number (e ∷ past) put (inl (is_one, before, (outcome, has, answer))) = answer_heard number (e ∷ past) put outcome has answer
answered_heard number (e ∷ past) put (inr before) = heard_more number e past put (answered_heard number past put before)

-- no put of a list of open ones was answered there
none_answered : (number : ℕ) (part whole : List Event) (put : ℕ) → BringsTo number part whole → IsAnswered number part put → ⊥
none_answered number part whole put brings answered = by (answered_heard number part put answered)
  where
    not_got : ¬ (HasSenderOutcome number part put Got)
    not_got = none_got number part whole brings.mode brings.messages brings.puts put

    by : WasHeard (heard_after number part) put → ⊥
    by (inl got) = not_got got
    by (inr settled) = none_settled number part whole brings.mode brings.messages brings.puts put (settled, λ got. not_got got)

-- nor is one where the sender did nothing
idle_before : (number : ℕ) (e : Event) (past : List Event) → events_at number Sender (e ∷ past) ≡ [] → events_at number Sender past ≡ []
idle_before number e past idle = by (eqb number e.stream && is_same_side Sender e.side) idle
  where
    by : (b : Bool) → event_if b e (events_at number Sender past) ≡ [] → events_at number Sender past ≡ []
    by true is = absurd cc
    by false is = is

idle_unanswered : (number : ℕ) (events : List Event) (put : ℕ) → events_at number Sender events ≡ [] → IsAnswered number events put → ⊥
idle_unanswered number [] put idle never = never
idle_unanswered number (e ∷ past) put idle (inl (is_one, before, after)) =
    let less = of_puts_of_sender number past put (Unknown false) before in
    let nothing = no_puts number past (idle_before number e past idle) in
    omega (arith, less, nothing)
idle_unanswered number (e ∷ past) put idle (inr before) = idle_unanswered number past put (idle_before number e past idle) before

-- what was answered there was answered behind all earlier ones
answered_on : (number many : ℕ) (newer part whole : List Event) (put : ℕ) → StandsFor number many part whole → (IsAnswered number part put → ⊥) → IsAnswered number (newer ++ part) put
    → IsAnswered number (newer ++ whole) (many + put)
answered_on number many [] part whole put stands none answered = absurd (none answered)
answered_on number many (e ∷ newer) part whole put stands none (inl (is_one, before, (outcome, has, answer))) = inl (
  is_one,
  tells_so number many (newer ++ part) (newer ++ whole) (stands_on number many newer part whole stands) put (Unknown false) before,
  (outcome, tells_so number many (e ∷ (newer ++ part)) (e ∷ (newer ++ whole)) (stands_on number many (e ∷ newer) part whole stands) put outcome has, answer),
)
answered_on number many (e ∷ newer) part whole put stands none (inr before) = inr (answered_on number many newer part whole put stands none before)

answered_brought : (number : ℕ) (newer part whole : List Event) (put : ℕ) → BringsTo number part whole → (IsAnswered number part put → ⊥) → IsAnswered number (newer ++ part) put
    → IsAnswered number (newer ++ whole) (more_puts number (newer ++ part) (newer ++ whole) + put)
answered_brought number newer part whole put brings none answered =
    let stands = open_stands number part whole brings.mode brings.messages brings.puts in
    let count = (stands_on number (more_puts number part whole) newer part whole stands).count in
    subst (λ (n : ℕ). IsAnswered number (newer ++ whole) (n + put)) (omega (arith, count)) (answered_on number (more_puts number part whole) newer part whole put stands none answered)

crash_unanswered : (number : ℕ) (e : Event) (past : List Event) (put : ℕ) → IsCrashOf number e → events_at number Sender past ≡ [] → IsAnswered number (e ∷ past) put → ⊥
crash_unanswered number e past put crash idle (inl (is_one, before, after)) = differ (sym (ap is_ack crash.2) ∙ is_one)
  where
    differ : false ≡ true → ⊥
    differ same = cc
crash_unanswered number e past put crash idle (inr before) = idle_unanswered number past put idle before

answered_so : (number : ℕ) (newer listed earlier : List Event) (put : ℕ) → GoesOnFrom number newer listed earlier → IsAnswered number (newer ++ listed) put
    → IsAnswered number (newer ++ earlier) (more_puts number (newer ++ listed) (newer ++ earlier) + put)
answered_so number newer listed earlier put (inl brings) answered = answered_brought number newer listed earlier put brings (none_answered number listed earlier put brings) answered
answered_so number newer listed earlier put (inr (none, inl idle)) answered = absurd (idle_unanswered number (newer ++ listed) put (none_of_both number newer listed idle none) answered)
answered_so number newer listed earlier put (inr (none, inr (later, crash, older, is, crashes, idle))) answered =
    let rest = none_of_both number older listed idle none in
    let mine = append_assoc later (crash ∷ older) listed in
    let its = append_assoc later (crash ∷ older) earlier in
    subst (λ (es : List Event). IsAnswered number (es ++ earlier) (more_puts number (es ++ listed) (es ++ earlier) + put)) (sym is)
    (subst (λ (es : List Event). IsAnswered number ((later ++ crash ∷ older) ++ earlier) (more_puts number es ((later ++ crash ∷ older) ++ earlier) + put)) (sym mine)
    (subst (λ (es : List Event). IsAnswered number es (more_puts number (later ++ (crash ∷ (older ++ listed))) es + put)) (sym its)
    (answered_brought number later (crash ∷ (older ++ listed)) (crash ∷ (older ++ earlier)) put (crash_brings number crash (older ++ listed) (older ++ earlier) crashes rest)
    (crash_unanswered number crash (older ++ listed) put crashes rest)
    (subst (λ (es : List Event). IsAnswered number es put) mine (subst (λ (es : List Event). IsAnswered number (es ++ listed) put) is answered)))))

module _ (newer listed earlier : List Event) (resumes : Resumes newer listed earlier) where
  pub right_puts : ArePutsRight (newer ++ listed)
  right_puts = right_on_all (newer ++ listed) (λ number. resumed_right number newer listed earlier (resumes.each number) resumes.right (right_on_each number listed resumes.puts))

  pub known_by_all : (put : Put) (outcome : Option SenderOutcome) → IsKnownAs (newer ++ listed) put outcome → IsKnownByAll (newer ++ listed) (newer ++ earlier) put outcome
  known_by_all put None less = resumed_count put.stream newer listed earlier (resumes.each put.stream) put.place less
  known_by_all put (Some outcome) has = resumed_told put.stream newer listed earlier (resumes.each put.stream) put.place outcome has

  pub answered_by_all : (stream place : ℕ) → IsAnswered stream (newer ++ listed) place → IsAnswered stream (newer ++ earlier) (more_puts stream (newer ++ listed) (newer ++ earlier) + place)
  answered_by_all stream place answered = answered_so stream newer listed earlier place (resumes.each stream) answered
