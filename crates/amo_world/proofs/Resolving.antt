-- Backward simulation: what a queue in doubt may stand for after changes comes from what it may have stood for before them, without a loss
-- where the changes set no mark.
use Rattle.std.proofs.Common.{◌≡◌, false, List, [], ◌∷◌, ◌++◌, refl, subst, sym}
use Rattle.amo_object.specs.declared.step.Step.{Step}
use Rattle.amo_object.specs.declared.step.Step.TheVariants.{Put, Get, Ack, Crash, Recover, DownReply, Lose, LoseAck}
use Rattle.amo_object.specs.Queue as queue
use Rattle.amo_object.specs.Run.{without_losses}
use Rattle.amo_world.specs.Doubt.{DoubtState, Change, call, mark, unmark, leave, mark_status, unmark_status, settle_status, AllowsCall, Allows, after, AllowsAll, after_all, calls_of, sets_mark, SetsNoMark, Moves, MovesUnmarking}
use Rattle.amo_world.specs.Resolution.{Resolves, Runs, Leads}
use Rattle.amo_world.proofs.Resolutions.{queue_of-resolved, LedFrom, RunFrom, IsLedTo, IsRunTo, joined_runs, joined_leads, no_step, run_from}
use Rattle.amo_world.proofs.CallsBack.{IsLedTo-call}
use Rattle.amo_world.proofs.MarksBack.{IsLedTo-unmark, IsLedTo-leave, IsLedTo-unmark_status, IsLedTo-settle_status, IsRunTo-mark, IsRunTo-mark_status}

-- a change that sets no mark leads to what may stand after it, from what may stand before it
IsLedTo-change : (s : DoubtState) (c : Change) → sets_mark c ≡ false → Allows s c → IsLedTo s c
IsLedTo-change s (call step) quiet allowed = IsLedTo-call s step allowed
IsLedTo-change s (mark before e later) quiet allowed = absurd cc
IsLedTo-change s (unmark before e later) quiet allowed = IsLedTo-unmark s before e later allowed
IsLedTo-change s (leave before e later) quiet allowed = IsLedTo-leave s before e later allowed
IsLedTo-change s mark_status quiet allowed = absurd cc
IsLedTo-change s unmark_status quiet allowed = IsLedTo-unmark_status s
IsLedTo-change s settle_status quiet allowed = IsLedTo-settle_status s allowed

-- a visible step that the queue in doubt allows is no loss
visible : (s : DoubtState) (step : Step) → AllowsCall s step → without_losses (step ∷ []) ≡ step ∷ []
visible s (Put m) allowed = refl
visible s (Get m) allowed = refl
visible s (Ack answer) allowed = refl
visible s (Crash side) allowed = refl
visible s (Recover side) allowed = refl
visible s (DownReply side) allowed = refl
visible s (Lose place) allowed = absurd allowed
visible s LoseAck allowed = absurd allowed

-- and any change leads to it by a run
IsRunTo-change : (s : DoubtState) (c : Change) → Allows s c → IsRunTo s c
IsRunTo-change s (mark before e later) allowed = IsRunTo-mark s before e later allowed
IsRunTo-change s mark_status allowed = IsRunTo-mark_status s allowed
IsRunTo-change s (call step) allowed =
    λ fates known fits. run_from s (step ∷ []) _ (visible s step allowed) (IsLedTo-call s step allowed fates known fits)
IsRunTo-change s (unmark before e later) allowed =
    λ fates known fits. run_from s [] _ refl (IsLedTo-unmark s before e later allowed fates known fits)
IsRunTo-change s (leave before e later) allowed =
    λ fates known fits. run_from s [] _ refl (IsLedTo-leave s before e later allowed fates known fits)
IsRunTo-change s unmark_status allowed = λ fates known fits. run_from s [] _ refl (IsLedTo-unmark_status s fates known fits)
IsRunTo-change s settle_status allowed = λ fates known fits. run_from s [] _ refl (IsLedTo-settle_status s allowed fates known fits)

-- what is seen of a change and then others
calls_of-cons : (c : Change) (cs : List Change) → calls_of (c ∷ []) ++ calls_of cs ≡ calls_of (c ∷ cs)
calls_of-cons (call step) cs = refl
calls_of-cons _ cs = refl

-- the same, of any queue that the queue in doubt may stand for
change_back : (s : DoubtState) (c : Change) → Allows s c → (r : queue.QueueState) → Resolves r (after s c) → RunFrom s (calls_of (c ∷ [])) r
change_back s c allowed r d =
    subst (λ (x : queue.QueueState). RunFrom s (calls_of (c ∷ [])) x) (queue_of-resolved (after s c) r d)
    (IsRunTo-change s c allowed d.fates r.status (record { of = d.of; undoubted = d.undoubted; status = d.status }))

unmarking_back : (s : DoubtState) (c : Change) → sets_mark c ≡ false → Allows s c → (r : queue.QueueState) → Resolves r (after s c)
    → LedFrom s (calls_of (c ∷ [])) r
unmarking_back s c quiet allowed r d =
    subst (λ (x : queue.QueueState). LedFrom s (calls_of (c ∷ [])) x) (queue_of-resolved (after s c) r d)
    (IsLedTo-change s c quiet allowed d.fates r.status (record { of = d.of; undoubted = d.undoubted; status = d.status }))

-- and of all changes one after another
changes_back : (s : DoubtState) (cs : List Change) → AllowsAll s cs → (r : queue.QueueState) → Resolves r (after_all s cs)
    → RunFrom s (calls_of cs) r
changes_back s [] allowed r d = run_from s [] r refl (record { before = r; resolves = d; leads = no_step r })
changes_back s (c ∷ cs) allowed r d =
    let later = changes_back (after s c) cs allowed.1 r d in
    let first = change_back s c allowed.0 later.before later.resolves in
    record {
      before = first.before;
      resolves = first.resolves;
      runs = subst (λ (steps : List Step). Runs first.before steps r) (calls_of-cons c cs)
          (joined_runs first.before later.before r (calls_of (c ∷ [])) (calls_of cs) first.runs later.runs);
    }

unmarkings_back : (s : DoubtState) (cs : List Change) → SetsNoMark cs → AllowsAll s cs → (r : queue.QueueState)
    → Resolves r (after_all s cs)
    → LedFrom s (calls_of cs) r
unmarkings_back s [] quiet allowed r d = record { before = r; resolves = d; leads = no_step r }
unmarkings_back s (c ∷ cs) quiet allowed r d =
    let later = unmarkings_back (after s c) cs quiet.1 allowed.1 r d in
    let first = unmarking_back s c quiet.0 allowed.0 later.before later.resolves in
    record {
      before = first.before;
      resolves = first.resolves;
      leads = subst (λ (steps : List Step). Leads first.before steps r) (calls_of-cons c cs)
          (joined_leads first.before later.before r (calls_of (c ∷ [])) (calls_of cs) first.leads later.leads);
    }

-- what a queue in doubt may stand for after changes comes, by a run in which the same is seen, from what it may have stood for before them
pub resolves_before : (s t : DoubtState) (steps : List Step) → Moves s steps t → (after : queue.QueueState) → Resolves after t
    → (before : queue.QueueState) × Resolves before s × Runs before steps after
resolves_before s t steps moves r d =
    let found = changes_back s moves.changes moves.allowed r (subst (λ (x : DoubtState). Resolves r x) (sym moves.reached) d) in
    (found.before, found.resolves, subst (λ (xs : List Step). Runs found.before xs r) moves.seen found.runs)

-- and where they set no mark, just these steps lead there
pub resolves_unmarking : (s t : DoubtState) (steps : List Step) → MovesUnmarking s steps t → (after : queue.QueueState) → Resolves after t
    → (before : queue.QueueState) × Resolves before s × Leads before steps after
resolves_unmarking s t steps m r d =
    let found =
    unmarkings_back s m.moves.changes m.unmarking m.moves.allowed r
    (subst (λ (x : DoubtState). Resolves r x) (sym m.moves.reached) d) in
    (found.before, found.resolves, subst (λ (xs : List Step). Leads found.before xs r) m.moves.seen found.leads)
