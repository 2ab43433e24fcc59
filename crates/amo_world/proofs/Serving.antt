-- Forward and backward simulation together: each history that is right, honest and fresh serves each of its streams.
use Rattle.std.proofs.Common.{◌≡◌, ◌≢◌, ◌⊎◌, ℕ, Bool, true, false, eqb, Some, List, [], ◌∷◌, ◌++◌, inl, inr, refl, sym, ◌∙◌, ap, subst}
use Rattle.std.specs.Option.{option_to_list}
use Rattle.std.proofs.lemmas.Bool.{eq-eqb}
use Rattle.std.proofs.lemmas.Bool.Decides.{eqb_tells}
use Rattle.amo_object.specs.declared.step.End.{End}
use Rattle.amo_object.specs.declared.step.End.TheVariants.{Sender, Receiver}
use Rattle.amo_object.specs.declared.step.Step.{Step}
use Rattle.amo_object.specs.declared.step.Step.TheVariants as step
use Rattle.amo_object.specs.Queue as queue
use Rattle.amo_object.specs.Run.{after_all}
use Rattle.amo_object.proofs.Runs.{after_all-append, IsRunFrom-append, without_losses-append}
use Rattle.amo_core.specs.declared.act.Act.{Act}
use Rattle.amo_core.specs.declared.act.Act.TheVariants.{Crash}
use Rattle.amo_core.specs.declared.reply.Reply.{Reply}
use Rattle.amo_world.specs.declared.event.Event.{Event}
use Rattle.amo_world.specs.Stream.{Stream, after, reply_of}
use Rattle.amo_world.specs.History.{stream_after, stream_before, after_if, WasEmitted, IsNewWord, IsRight, IsHonest, IsFresh}
use Rattle.amo_world.specs.Served.{call_of, calls, calls_and, IsServed}
use Rattle.amo_world.specs.Doubt.{DoubtState, set_down, Moves, MovesUnmarking}
use Rattle.amo_world.specs.Resolution.{Resolves, Runs, Leads}
use Rattle.amo_world.specs.View.{view}
use Rattle.amo_world.proofs.Invariant.{Invariant}
use Rattle.amo_world.proofs.InvariantKept.{facts_initial, facts_after}
use Rattle.amo_world.proofs.Moving.{called_then}
use Rattle.amo_world.proofs.SenderMoves.{sender_moves}
use Rattle.amo_world.proofs.SenderCrash.{sender_crashes}
use Rattle.amo_world.proofs.ReceiverCrash.{receiver_crashes}
use Rattle.amo_world.proofs.ReceiverRows.{receiver_moves}
use Rattle.amo_world.proofs.Resolutions.{start_resolves, all_kept}
use Rattle.amo_world.proofs.Resolving.{resolves_before, resolves_unmarking}

-- each act but a crash moves the queue in doubt, with no mark set
act_moves : (s : Stream) (side : End) (a : Act) (r : Reply) → a ≢ Crash → Invariant s → WasEmitted s side a → IsNewWord s side a
    → reply_of s side a ≡ Some r
    → MovesUnmarking (view s) (option_to_list (call_of side a r)) (view (after s side a))
act_moves s Sender a r calm f honest fresh is = sender_moves s a r calm f honest fresh is
act_moves s Receiver a r calm f honest fresh is = receiver_moves s a r calm f honest fresh is

-- a crash moves it, and then marks may be set
crash_moves : (s : Stream) (side : End) → Invariant s → Moves (set_down (view s) side true) [] (view (after s side Crash))
crash_moves s Sender f = sender_crashes s f
crash_moves s Receiver f = receiver_crashes s f

-- an act is a crash, or it is not
crash_or_not : (a : Act) → (a ≡ Crash) ⊎ (a ≢ Crash)
crash_or_not Crash = inl refl
crash_or_not a = inr (λ e. cc)

-- what holds of a stream holds after an event, if it holds after an event of the stream
facts_if : (here : Bool) (s : Stream) (e : Event) → Invariant s → (here ≡ true → Invariant (after s e.side e.act))
    → Invariant (after_if here s e)
facts_if true s e f kept = kept refl
facts_if false s e f kept = f

-- the facts hold after each history
pub stream_facts : (number : ℕ) (events : List Event) → IsHonest events → IsFresh events → Invariant (stream_after number events)
stream_facts number [] honest fresh = facts_initial number
stream_facts number (e ∷ past) honest fresh =
    let f = stream_facts number past honest.1 fresh.1 in
    facts_if (eqb number e.stream) (stream_after number past) e f (λ here. facts_here (same here) f)
  where
    same : eqb number e.stream ≡ true → e.stream ≡ number
    same here = elim (eqb_tells number e.stream) [ inl h ↦ sym h.1 | inr h ↦ absurd (differ h.0 here) ]
      where
        differ : eqb number e.stream ≡ false → eqb number e.stream ≡ true → ⊥
        differ is_false is_true = cc

    facts_here : e.stream ≡ number → Invariant (stream_after number past) → Invariant (after (stream_after number past) e.side e.act)
    facts_here is f = facts_after (stream_after number past) e.side e.act f
        (subst (λ (n : ℕ). WasEmitted (stream_after n past) e.side e.act) is honest.0)
        (subst (λ (n : ℕ). IsNewWord (stream_after n past) e.side e.act) is fresh.0)

-- a stream after an event of its own
after_event : (past : List Event) (e : Event) → after (stream_before past e) e.side e.act ≡ stream_after e.stream (e ∷ past)
after_event past e = ap (λ (b : Bool). after_if b (stream_before past e) e) (sym (eq-eqb e.stream e.stream refl))

-- an event that is no crash moves the queue in doubt of its stream, with no mark set
pub calm_event_moves : (past : List Event) (e : Event) → IsRight (e ∷ past) → IsHonest (e ∷ past) → IsFresh (e ∷ past) → e.act ≢ Crash
    → MovesUnmarking (view (stream_before past e)) (option_to_list (call_of e.side e.act e.reply)) (view (stream_after e.stream (e ∷ past)))
calm_event_moves past e right honest fresh calm =
    subst (λ (s : Stream). MovesUnmarking (view (stream_before past e)) (option_to_list (call_of e.side e.act e.reply)) (view s))
    (after_event past e)
    (act_moves (stream_before past e) e.side e.act e.reply calm (stream_facts e.stream past honest.1 fresh.1) honest.0 fresh.0 right.0)

-- a crash moves it, and then marks may be set
pub crash_event_moves : (past : List Event) (e : Event) → IsRight (e ∷ past) → IsHonest (e ∷ past) → IsFresh (e ∷ past) → e.act ≡ Crash
    → Moves (set_down (view (stream_before past e)) e.side true) [] (view (stream_after e.stream (e ∷ past)))
crash_event_moves past e right honest fresh is =
    subst (λ (s : Stream). Moves (set_down (view (stream_before past e)) e.side true) [] (view s))
    (ap (λ (a : Act). after (stream_before past e) e.side a) (sym is) ∙ after_event past e)
    (crash_moves (stream_before past e) e.side (stream_facts e.stream past honest.1 fresh.1))

-- an event moves the queue in doubt of its stream
pub event_moves : (past : List Event) (e : Event) → IsRight (e ∷ past) → IsHonest (e ∷ past) → IsFresh (e ∷ past)
    → Moves (view (stream_before past e)) (option_to_list (call_of e.side e.act e.reply)) (view (stream_after e.stream (e ∷ past)))
event_moves past e right honest fresh = elim (crash_or_not e.act) [
  | inl is ↦
      subst
      (λ (a : Act). Moves (view (stream_before past e)) (option_to_list (call_of e.side a e.reply)) (view (stream_after e.stream (e ∷ past))))
      (sym is)
      (called_then (view (stream_before past e)) (step.Crash e.side) _ tt (crash_event_moves past e right honest fresh is))
  | inr calm ↦ (calm_event_moves past e right honest fresh calm).moves
]

-- after an event that is no crash, what may stand for the queue in doubt is led to by the event's call from what may have stood before it
pub calm_event_leads : (past : List Event) (e : Event) → IsRight (e ∷ past) → IsHonest (e ∷ past) → IsFresh (e ∷ past) → e.act ≢ Crash
    → (now : queue.QueueState) → Resolves now (view (stream_after e.stream (e ∷ past)))
    → (before : queue.QueueState) × Resolves before (view (stream_before past e)) × Leads before
    (option_to_list (call_of e.side e.act e.reply)) now
calm_event_leads past e right honest fresh calm now resolves =
    resolves_unmarking (view (stream_before past e)) (view (stream_after e.stream (e ∷ past)))
    (option_to_list (call_of e.side e.act e.reply))
    (calm_event_moves past e right honest fresh calm) now resolves

-- a side that goes down changes nothing else of what may stand for the queue in doubt
resolves_down : (s : DoubtState) (side : End) (r : queue.QueueState) → Resolves r (set_down s side true)
    → (before : queue.QueueState) × Resolves before s × (queue.after before (step.Crash side) ≡ r)
resolves_down s Sender r d = (
  record r { sender_down = s.sender_down },
  record {
    fates = d.fates;
    of = d.of;
    undoubted = d.undoubted;
    messages = d.messages;
    status = d.status;
    sender_down = refl;
    receiver_down = d.receiver_down;
  },
  ap (λ (b : Bool). record r { sender_down = b }) (sym d.sender_down),
)
resolves_down s Receiver r d = (
  record r { receiver_down = s.receiver_down },
  record {
    fates = d.fates;
    of = d.of;
    undoubted = d.undoubted;
    messages = d.messages;
    status = d.status;
    sender_down = d.sender_down;
    receiver_down = refl;
  },
  ap (λ (b : Bool). record r { receiver_down = b }) (sym d.receiver_down),
)

-- after a crash, it comes by the crash and then losses alone
pub crash_event_loses : (past : List Event) (e : Event) → IsRight (e ∷ past) → IsHonest (e ∷ past) → IsFresh (e ∷ past) → e.act ≡ Crash
    → (now : queue.QueueState) → Resolves now (view (stream_after e.stream (e ∷ past)))
    → (before : queue.QueueState) × Resolves before (view (stream_before past e)) × Runs (queue.after before (step.Crash e.side)) [] now
crash_event_loses past e right honest fresh is now resolves =
    let down = resolves_before (set_down (view (stream_before past e)) e.side true) (view (stream_after e.stream (e ∷ past))) []
    (crash_event_moves past e right honest fresh is) now resolves in
    let before = resolves_down (view (stream_before past e)) e.side down.0 down.1 in
    (before.0, before.1, subst (λ (r : queue.QueueState). Runs r [] now) (sym before.2) down.2)

-- what the queue in doubt may stand for after an event comes, by steps of the queue that show a client the event's call alone, from what
-- it may have stood for before the event
pub event_resolves : (past : List Event) (e : Event) → IsRight (e ∷ past) → IsHonest (e ∷ past) → IsFresh (e ∷ past)
    → (now : queue.QueueState) → Resolves now (view (stream_after e.stream (e ∷ past)))
    → (before : queue.QueueState) × Resolves before (view (stream_before past e)) × Runs before
    (option_to_list (call_of e.side e.act e.reply)) now
event_resolves past e right honest fresh now resolves =
    resolves_before (view (stream_before past e)) (view (stream_after e.stream (e ∷ past))) (option_to_list (call_of e.side e.act e.reply))
    (event_moves past e right honest fresh) now resolves

-- a run of the queue, with the stream's calls, that leads to a state which the queue in doubt may stand for
abbrev pub IsReached : ℕ → List Event → queue.QueueState → Type 0
IsReached number events r = Runs queue.start (calls number events) r

-- one run after another
joined : (a b c : queue.QueueState) (xs ys : List Step) → Runs a xs b → Runs b ys c → Runs a (xs ++ ys) c
joined a b c xs ys m n = record {
  run = m.run ++ n.run;
  allowed = IsRunFrom-append a m.run n.run m.allowed (rw m.reached n.allowed);
  reached = after_all-append a m.run n.run ∙ ap (λ (s : queue.QueueState). after_all s n.run) m.reached ∙ n.reached;
  seen = without_losses-append m.run n.run ∙ rw (m.seen, n.seen) refl;
}

-- an event of another stream changes nothing
elsewhere : (number : ℕ) (past : List Event) (e : Event) → eqb number e.stream ≡ false
    → ((r : queue.QueueState) → Resolves r (view (stream_after number past)) → IsReached number past r)
    → (r : queue.QueueState) → Resolves r (view (stream_after number (e ∷ past))) → IsReached number (e ∷ past) r
elsewhere number past e apart before r resolves =
    subst (λ (b : Bool). Runs queue.start (calls_and b (calls number past) e) r) (sym apart)
    (before r (subst (λ (b : Bool). Resolves r (view (after_if b (stream_after number past) e))) apart resolves))

-- an event of the stream adds its call
here : (past : List Event) (e : Event) → IsRight (e ∷ past) → IsHonest (e ∷ past) → IsFresh (e ∷ past)
    → ((r : queue.QueueState) → Resolves r (view (stream_before past e)) → IsReached e.stream past r)
    → (r : queue.QueueState) → Resolves r (view (stream_after e.stream (e ∷ past))) → IsReached e.stream (e ∷ past) r
here past e right honest fresh before r resolves =
    let back = event_resolves past e right honest fresh r resolves in
    subst (λ (b : Bool). Runs queue.start (calls_and b (calls e.stream past) e) r) (sym (eq-eqb e.stream e.stream refl))
    (joined queue.start back.0 r (calls e.stream past) (option_to_list (call_of e.side e.act e.reply)) (before back.0 back.1) back.2)

-- each state that the queue in doubt may stand for is reached by a run with the stream's calls
reached : (number : ℕ) (events : List Event) → IsRight events → IsHonest events → IsFresh events
    → (r : queue.QueueState) → Resolves r (view (stream_after number events)) → IsReached number events r
reached number [] right honest fresh r resolves = record { run = []; allowed = tt; reached = sym (start_resolves r resolves); seen = refl }
reached number (e ∷ past) right honest fresh r resolves =
    let before = reached number past right.1 honest.1 fresh.1 in
    elim (eqb_tells number e.stream) [
      | inl h ↦
          subst (λ (n : ℕ). (r : queue.QueueState) → Resolves r (view (stream_after n (e ∷ past))) → IsReached n (e ∷ past) r) (sym h.1)
          (here past e right honest fresh
          (subst (λ (n : ℕ). (r : queue.QueueState) → Resolves r (view (stream_after n past)) → IsReached n past r) h.1 before))
          r resolves
      | inr h ↦ elsewhere number past e h.0 before r resolves
    ]

-- some state is one that it may stand for, so there is such a run
pub serves : (number : ℕ) (events : List Event) → IsRight events → IsHonest events → IsFresh events → IsServed number events
serves number events right honest fresh =
    let some = all_kept (view (stream_after number events)) in
    let run = reached number events right honest fresh some.0 some.1 in
    (run.run, run.allowed, run.seen)
