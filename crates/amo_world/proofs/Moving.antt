-- Forward simulation: moves of the queue in doubt, put one after another.
use Rattle.std.proofs.Common.{◌≡◌, List, [], ◌∷◌, ◌++◌, refl, sym, ◌∙◌, ap, subst}
use Rattle.amo_object.specs.declared.step.Step.{Step}
use Rattle.amo_world.specs.Doubt.{DoubtState, Change, call, mark, unmark, leave, mark_status, unmark_status, settle_status, AllowsCall, after_call, after, AllowsAll, after_all, calls_of, Moves}

-- with no change the queue stays where it is
abbrev pub stays : (s : DoubtState) → Moves s [] s
stays s = record { changes = []; allowed = tt; reached = refl; seen = refl }

-- two lists of changes joined lead where the second leads from where the first leads
pub after_all-append : (s : DoubtState) (xs ys : List Change) → after_all s (xs ++ ys) ≡ after_all (after_all s xs) ys
after_all-append s [] ys = refl
after_all-append s (x ∷ xs) ys = after_all-append (after s x) xs ys

-- changes that are allowed, continued by changes that are allowed where they lead, are allowed
pub AllowsAll-append : (s : DoubtState) (xs ys : List Change) → AllowsAll s xs → AllowsAll (after_all s xs) ys → AllowsAll s (xs ++ ys)
AllowsAll-append s [] ys first more = more
AllowsAll-append s (x ∷ xs) ys first more = (first.0, AllowsAll-append (after s x) xs ys first.1 more)

-- a client sees of two lists of changes joined what it sees of each
pub calls_of-append : (xs ys : List Change) → calls_of (xs ++ ys) ≡ calls_of xs ++ calls_of ys
calls_of-append [] ys = refl
calls_of-append (call step ∷ xs) ys = ap (λ (steps : List Step). step ∷ steps) (calls_of-append xs ys)
calls_of-append (mark before e later ∷ xs) ys = calls_of-append xs ys
calls_of-append (unmark before e later ∷ xs) ys = calls_of-append xs ys
calls_of-append (leave before e later ∷ xs) ys = calls_of-append xs ys
calls_of-append (mark_status ∷ xs) ys = calls_of-append xs ys
calls_of-append (unmark_status ∷ xs) ys = calls_of-append xs ys
calls_of-append (settle_status ∷ xs) ys = calls_of-append xs ys

-- moves to a state, and on from it, show a client the steps of both
abbrev pub then : {a b c : DoubtState} {xs ys : List Step} → Moves a xs b → Moves b ys c → Moves a (xs ++ ys) c
then {a} {b} {c} {xs} {ys} m n = record {
  changes = m.changes ++ n.changes;
  allowed = AllowsAll-append a m.changes n.changes m.allowed (subst (λ (s : DoubtState). AllowsAll s n.changes) (sym m.reached) n.allowed);
  reached = after_all-append a m.changes n.changes ∙ ap (λ (s : DoubtState). after_all s n.changes) m.reached ∙ n.reached;
  seen =
      calls_of-append m.changes n.changes ∙ ap (λ (steps : List Step). steps ++ calls_of n.changes) m.seen ∙ ap
      (λ (steps : List Step). xs ++ steps) n.seen;
}

-- the same where no client sees the first moves
abbrev pub quietly_then : {a b c : DoubtState} {ys : List Step} → Moves a [] b → Moves b ys c → Moves a ys c
quietly_then m n = then m n

-- one step that a client sees, and then moves that it does not see
pub called_then : (s : DoubtState) (step : Step) (t : DoubtState) → AllowsCall s step → Moves (after_call s step) [] t
    → Moves s (step ∷ []) t
called_then s step t allowed m = record {
  changes = call step ∷ m.changes;
  allowed = (allowed, m.allowed);
  reached = m.reached;
  seen = ap (λ (steps : List Step). step ∷ steps) m.seen;
}

-- two states whose parts are equal are equal
pub state-eq : (s t : DoubtState) → s.entries ≡ t.entries → s.status ≡ t.status → s.status_doubted ≡ t.status_doubted
    → s.sender_down ≡ t.sender_down → s.receiver_down ≡ t.receiver_down → s ≡ t
state-eq s t entries status doubted sender receiver =
    λ i. record { entries = entries i; status = status i; status_doubted = doubted i; sender_down = sender i; receiver_down = receiver i }

-- moves to a state are moves to one that equals it
pub moves-to : {s t u : DoubtState} {xs : List Step} → Moves s xs t → t ≡ u → Moves s xs u
moves-to {s} {t} {u} {xs} m e = subst (λ (x : DoubtState). Moves s xs x) e m
