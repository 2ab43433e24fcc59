-- Backward simulation: the queues that a queue in doubt may stand for, and how those before a change lead to those after it.
use Rattle.std.proofs.Common.{◌≡◌, ℕ, Bool, true, false, List, [], ◌∷◌, ◌++◌, length, refl, sym, ◌∙◌, ap, subst, if◌then◌else◌, ◌==◌, ◌+◌, arith}
use Rattle.std.proofs.lemmas.Bool.{eq-eqb, ne_eqb}
use Rattle.std.proofs.lemmas.List.{length-append}
use Rattle.amo_object.specs.declared.status.Status.{Status}
use Rattle.amo_object.specs.declared.status.Status.TheVariants.{Yes}
use Rattle.amo_object.specs.declared.step.Step.{Step}
use Rattle.amo_object.specs.Queue as queue
use Rattle.amo_object.specs.Run as run
use Rattle.amo_object.proofs.Runs.{after_all-append, IsRunFrom-append, without_losses-append}
use Rattle.amo_world.specs.Doubt.{Entry, DoubtState, Change, calls_of, after}
use Rattle.amo_world.specs.Resolution.{Fate, entries_of, messages_kept, KeepsUndoubted, keeps_last, ResolvesStatus, Resolves, Runs, Leads}
use Rattle.amo_world.proofs.Fates.{fate, remove-middle}
use Rattle.amo_world.proofs.Statuses.{same_sure, stands_itself, left_status}

-- the queue that these fates leave of a queue in doubt, with this status
abbrev pub queue_of : DoubtState → List Fate → Status → queue.QueueState
queue_of s fates known =
    record { messages = messages_kept fates; status = known; sender_down = s.sender_down; receiver_down = s.receiver_down }

-- fates of the messages of a queue in doubt, and a status that it may stand for with them
pub record Fits (s : DoubtState) (fates : List Fate) (known : Status) : Type 0 where
  pub of : entries_of fates ≡ s.entries
  pub undoubted : KeepsUndoubted fates
  pub status : ResolvesStatus s.status (keeps_last fates) s.status_doubted known

-- some queue that a queue in doubt may stand for, from which these steps, without a loss, lead to this queue
pub record LedFrom (s : DoubtState) (steps : List Step) (r : queue.QueueState) : Type 0 where
  pub before : queue.QueueState
  pub resolves : Resolves before s
  pub leads : Leads before steps r

-- and the same where losses may stand among the steps
pub record RunFrom (s : DoubtState) (steps : List Step) (r : queue.QueueState) : Type 0 where
  pub before : queue.QueueState
  pub resolves : Resolves before s
  pub runs : Runs before steps r

-- queues with the same messages, statuses and sides down are the same
pub same_queue : (m n : List (List ℕ)) (x y : Status) (a b e f : Bool) → m ≡ n → x ≡ y → a ≡ b → e ≡ f
    → ◌≡◌ {A = queue.QueueState} (record { messages = m; status = x; sender_down = a; receiver_down = e })
    (record { messages = n; status = y; sender_down = b; receiver_down = f })
same_queue m n x y a b e f messages status sender receiver = cc

-- the queue that fitting fates leave is one that the queue in doubt may stand for
pub resolves_from : (s : DoubtState) (fates : List Fate) (known : Status) → Fits s fates known → Resolves (queue_of s fates known) s
resolves_from s fates known fits = record {
  fates = fates;
  of = fits.of;
  undoubted = fits.undoubted;
  messages = refl;
  status = fits.status;
  sender_down = refl;
  receiver_down = refl;
}

-- and each that it may stand for is left by some fates
pub queue_of-resolved : (s : DoubtState) (r : queue.QueueState) (d : Resolves r s) → queue_of s d.fates r.status ≡ r
queue_of-resolved s r d = same_queue _ _ _ _ _ _ _ _ (sym d.messages) refl (sym d.sender_down) (sym d.receiver_down)

-- each queue that may stand after this change is led to from one that may stand before it
abbrev pub IsLedTo : DoubtState → Change → Type 0
IsLedTo s c =
    (fates : List Fate) (known : Status) → Fits (after s c) fates known → LedFrom s (calls_of (c ∷ [])) (queue_of (after s c) fates known)

-- and the same with losses
abbrev pub IsRunTo : DoubtState → Change → Type 0
IsRunTo s c =
    (fates : List Fate) (known : Status) → Fits (after s c) fates known → RunFrom s (calls_of (c ∷ [])) (queue_of (after s c) fates known)

-- a run and another from where it leads are one run, in which is seen what is seen in each
pub joined_runs : (r t u : queue.QueueState) (xs ys : List Step) → Runs r xs t → Runs t ys u → Runs r (xs ++ ys) u
joined_runs r t u xs ys first more = record {
  run = first.run ++ more.run;
  allowed =
      IsRunFrom-append r first.run more.run first.allowed
      (subst (λ (x : queue.QueueState). run.IsRunFrom x more.run) (sym first.reached) more.allowed);
  reached = after_all-append r first.run more.run ∙ ap (λ (x : queue.QueueState). run.after_all x more.run) first.reached ∙ more.reached;
  seen =
      without_losses-append first.run more.run ∙ ap (λ (steps : List Step). steps ++ run.without_losses more.run) first.seen ∙ ap
      (λ (steps : List Step). xs ++ steps) more.seen;
}

-- no step leads from a queue to itself
pub no_step : (r : queue.QueueState) → Leads r [] r
no_step r = record { allowed = tt; reached = refl }

-- steps that lead without a loss, and a run from where they lead, are one run
pub leads_then : (r t u : queue.QueueState) (xs ys : List Step) → run.without_losses xs ≡ xs → Leads r xs t → Runs t ys u
    → Runs r (xs ++ ys) u
leads_then r t u xs ys visible first more =
    joined_runs r t u xs ys (record { run = xs; allowed = first.allowed; reached = first.reached; seen = visible }) more

-- steps that lead, and others from where they lead, lead one after another
pub joined_leads : (r t u : queue.QueueState) (xs ys : List Step) → Leads r xs t → Leads t ys u → Leads r (xs ++ ys) u
joined_leads r t u xs ys first more = record {
  allowed = IsRunFrom-append r xs ys first.allowed (subst (λ (x : queue.QueueState). run.IsRunFrom x ys) (sym first.reached) more.allowed);
  reached = after_all-append r xs ys ∙ ap (λ (x : queue.QueueState). run.after_all x ys) first.reached ∙ more.reached;
}

-- queues that are the same are led to alike
pub leads_to_same : (r t u : queue.QueueState) (steps : List Step) → t ≡ u → Leads r steps t → Leads r steps u
leads_to_same r t u steps same leads = subst (λ (x : queue.QueueState). Leads r steps x) same leads

-- a queue is led to from the one that fitting fates leave
pub led_from : (s : DoubtState) (steps : List Step) (t : queue.QueueState) (fates : List Fate) (known : Status) → Fits s fates known
    → Leads (queue_of s fates known) steps t → LedFrom s steps t
led_from s steps t fates known fits leads =
    record { before = queue_of s fates known; resolves = resolves_from s fates known fits; leads = leads }

-- steps that lead without a loss are a run
pub run_from : (s : DoubtState) (steps : List Step) (t : queue.QueueState) → run.without_losses steps ≡ steps → LedFrom s steps t
    → RunFrom s steps t
run_from s steps t visible led = record {
  before = led.before;
  resolves = led.resolves;
  runs = record { run = steps; allowed = led.leads.allowed; reached = led.leads.reached; seen = visible };
}

-- a message that has left leaves those before it and those after it
pub without-middle : (xs : List (List ℕ)) (m : List ℕ) (ys : List (List ℕ)) (status known : Status) (sender receiver : Bool)
    → queue.without (record { messages = xs ++ m ∷ ys; status = status; sender_down = sender; receiver_down = receiver }) (length xs) known
    ≡ record { messages = xs ++ ys; status = left_status ys status known; sender_down = sender; receiver_down = receiver }
without-middle xs m ys status known sender receiver = same_queue _ _ _ _ _ _ _ _ (remove-middle xs m ys) (by ys) refl refl
  where
    by : (ys : List (List ℕ))
        → (if length xs + 1 == length (xs ++ m ∷ ys) then queue.settled status known else status) ≡ left_status ys status known
    by [] = rw (eq-eqb (length xs + 1) (length (xs ++ m ∷ [])) (omega (arith, length-append xs (m ∷ [])))) refl
    by (y ∷ ys) = rw (ne_eqb (length xs + 1) (length (xs ++ m ∷ y ∷ ys)) (λ e. absurd (omega (arith, length-append xs (m ∷ y ∷ ys))))) refl

-- the start of a queue in doubt stands for the start of the queue and for nothing else
pub start_resolves : (r : queue.QueueState)
    → Resolves r (record { entries = []; status = Yes; status_doubted = false; sender_down = false; receiver_down = false })
    → r ≡ queue.start
start_resolves r d = by d.fates d.of d.messages
  where
    by : (fates : List Fate) → entries_of fates ≡ [] → r.messages ≡ messages_kept fates → r ≡ queue.start
    by [] of messages = same_queue _ _ _ _ _ _ _ _ messages (same_sure Yes r.status d.status) d.sender_down d.receiver_down
    by (f ∷ fates) of messages = absurd cc

-- every entry kept
abbrev keep_all : List Entry → List Fate
keep_all [] = []
keep_all (e ∷ es) = fate e true ∷ keep_all es

-- these are fates of those entries
entries_of-keep_all : (es : List Entry) → entries_of (keep_all es) ≡ es
entries_of-keep_all [] = refl
entries_of-keep_all (e ∷ es) = ap (λ (rest : List Entry). e ∷ rest) (entries_of-keep_all es)

-- what is in no doubt is kept among them
KeepsUndoubted-keep_all : (es : List Entry) → KeepsUndoubted (keep_all es)
KeepsUndoubted-keep_all [] = tt
KeepsUndoubted-keep_all (e ∷ es) = (refl, KeepsUndoubted-keep_all es)

-- and so is the last one
keeps_last-keep_all : (es : List Entry) → keeps_last (keep_all es) ≡ true
keeps_last-keep_all [] = refl
keeps_last-keep_all (e ∷ []) = refl
keeps_last-keep_all (e ∷ f ∷ es) = keeps_last-keep_all (f ∷ es)

-- each queue in doubt may stand for the queue with every message kept and the same status
pub all_kept : (s : DoubtState) → (r : queue.QueueState) × Resolves r s
all_kept s =
    let fates = keep_all s.entries in
    let status =
    subst (λ (last : Bool). ResolvesStatus s.status last s.status_doubted s.status) (sym (keeps_last-keep_all s.entries))
    (stands_itself s.status s.status_doubted) in (
      queue_of s fates s.status,
      resolves_from s fates s.status
          (record { of = entries_of-keep_all s.entries; undoubted = KeepsUndoubted-keep_all s.entries; status = status }),
    )
