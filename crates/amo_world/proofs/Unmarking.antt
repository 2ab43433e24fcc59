-- Forward simulation: moves of the queue in doubt that set no mark, a call, marks that are taken away, and messages in doubt that leave.
use Rattle.std.proofs.Common.{◌≡◌, ℕ, Bool, true, false, List, [], ◌∷◌, ◌++◌, refl, sym, ap, subst, append_assoc}
use Rattle.amo_object.specs.declared.status.Status.{Status}
use Rattle.amo_object.specs.declared.status.Status.TheVariants.{No}
use Rattle.amo_object.specs.declared.step.Step.{Step}
use Rattle.amo_world.specs.Doubt.{Entry, entry, DoubtState, settled_before, Change, call, unmark, leave, unmark_status, settle_status, AllowsCall, after_call, SetsNoMark, MovesUnmarking}
use Rattle.amo_world.proofs.Moving as moving
use Rattle.amo_world.proofs.Moving.{state-eq}

-- with no change the queue stays where it is
pub stays : (s : DoubtState) → MovesUnmarking s [] s
stays s = record { moves = moving.stays s; unmarking = tt }

-- two lists of changes that set no mark set none when they are joined
SetsNoMark-append : (xs ys : List Change) → SetsNoMark xs → SetsNoMark ys → SetsNoMark (xs ++ ys)
SetsNoMark-append [] ys first then = then
SetsNoMark-append (x ∷ xs) ys first then = (first.0, SetsNoMark-append xs ys first.1 then)

-- moves that no client sees to a state, and moves on from it
pub quietly_then : {a b c : DoubtState} {ys : List Step} → MovesUnmarking a [] b → MovesUnmarking b ys c → MovesUnmarking a ys c
quietly_then m n = record {
  moves = moving.quietly_then m.moves n.moves;
  unmarking = SetsNoMark-append m.moves.changes n.moves.changes m.unmarking n.unmarking;
}

-- one step that a client sees
pub calls : (s : DoubtState) (step : Step) → AllowsCall s step → MovesUnmarking s (step ∷ []) (after_call s step)
calls s step allowed =
    record { moves = record { changes = call step ∷ []; allowed = (allowed, tt); reached = refl; seen = refl }; unmarking = (refl, tt) }

-- moves to a state are moves to one that equals it
pub moves-to : {s t u : DoubtState} {xs : List Step} → MovesUnmarking s xs t → t ≡ u → MovesUnmarking s xs u
moves-to {s} {t} {u} {xs} m e = subst (λ (x : DoubtState). MovesUnmarking s xs x) e m

-- moves from a state are moves from one that equals it
pub moves-from : {s t u : DoubtState} {xs : List Step} → s ≡ t → MovesUnmarking t xs u → MovesUnmarking s xs u
moves-from {s} {t} {u} {xs} e m = subst (λ (x : DoubtState). MovesUnmarking x xs u) (sym e) m

-- from a state to one whose parts are equal
pub same_parts : (v w : DoubtState) → v.entries ≡ w.entries → v.status ≡ w.status → v.status_doubted ≡ w.status_doubted
    → v.sender_down ≡ w.sender_down
    → v.receiver_down ≡ w.receiver_down → MovesUnmarking v [] w
same_parts v w entries status doubted sender receiver = moves-to (stays v) (state-eq v w entries status doubted sender receiver)

-- a doubted status may become No, in no doubt
pub settles : (s : DoubtState) → s.status_doubted ≡ true → MovesUnmarking s [] (record s { status = No; status_doubted = false })
settles s doubted =
    record {
      moves = record { changes = settle_status ∷ unmark_status ∷ []; allowed = (doubted, (tt, tt)); reached = refl; seen = refl };
      unmarking = (refl, (refl, tt));
    }

-- two messages that are equal, and both marked or both not, are the same entry
entry-eq : (e f : Entry) → e.message ≡ f.message → e.doubted ≡ f.doubted → e ≡ f
entry-eq e f messages marks = λ i. record { message = messages i; doubted = marks i }

-- the first list, where some marks are taken away, is the second one
abbrev pub HasFewerMarks : List Entry → List Entry → Type 0
HasFewerMarks [] [] = Unit {0}
HasFewerMarks (e ∷ es) (f ∷ fs) = (e.message ≡ f.message) × (f.doubted ≡ true → e.doubted ≡ true) × HasFewerMarks es fs
HasFewerMarks _ _ = ⊥

-- no mark need be taken away
pub fewer-refl : (es : List Entry) → HasFewerMarks es es
fewer-refl [] = tt
fewer-refl (e ∷ es) = (refl, (λ doubted. doubted), fewer-refl es)

-- marks taken away from two lists are taken away from both joined
pub fewer-append : (xs ys us vs : List Entry) → HasFewerMarks xs us → HasFewerMarks ys vs → HasFewerMarks (xs ++ ys) (us ++ vs)
fewer-append [] ys [] vs first second = second
fewer-append (x ∷ xs) ys (u ∷ us) vs first second = (first.0, first.1, fewer-append xs ys us vs first.2 second)
fewer-append [] ys (u ∷ us) vs first second = absurd first
fewer-append (x ∷ xs) ys [] vs first second = absurd first

-- one message may lose its mark
pub unmarks_one : (s : DoubtState) (before : List Entry) (e : Entry) (m : List ℕ) (b : Bool) (later : List Entry) → e.message ≡ m
    → (b ≡ true → e.doubted ≡ true)
    → MovesUnmarking (record s { entries = before ++ e ∷ later }) [] (record s { entries = before ++ entry b m ∷ later })
unmarks_one s before e m false later same fewer = record {
  moves = record {
    changes = unmark before e later ∷ [];
    allowed = (refl, tt);
    reached = ap (λ (x : List ℕ). record s { entries = before ++ entry false x ∷ later }) same;
    seen = refl;
  };
  unmarking = (refl, tt);
}
unmarks_one s before e m true later same fewer =
    moves-to (stays _) (ap (λ (x : Entry). record s { entries = before ++ x ∷ later }) (entry-eq e (entry true m) same (fewer refl)))

-- the messages behind some others may lose their marks
unmarks_entries : (s : DoubtState) (before es fs : List Entry) → HasFewerMarks es fs
    → MovesUnmarking (record s { entries = before ++ es }) [] (record s { entries = before ++ fs })
unmarks_entries s before [] [] fewer = stays _
unmarks_entries s before (e ∷ es) (f ∷ fs) fewer =
    quietly_then
    (unmarks_one s before e f.message f.doubted es fewer.0 fewer.1)
    (subst (λ (xs : List Entry). MovesUnmarking (record s { entries = xs }) [] (record s { entries = before ++ f ∷ fs }))
    (append_assoc before (f ∷ []) es)
    (subst (λ (xs : List Entry). MovesUnmarking (record s { entries = before ++ f ∷ [] ++ es }) [] (record s { entries = xs }))
    (append_assoc before (f ∷ []) fs)
    (unmarks_entries s (before ++ f ∷ []) es fs fewer.2)))
unmarks_entries s before [] (f ∷ fs) fewer = absurd fewer
unmarks_entries s before (e ∷ es) [] fewer = absurd fewer

-- the status may lose its mark
unmarks_status : (s : DoubtState) (b : Bool) → (b ≡ true → s.status_doubted ≡ true) → MovesUnmarking s [] (record s { status_doubted = b })
unmarks_status s false fewer =
    record { moves = record { changes = unmark_status ∷ []; allowed = (tt, tt); reached = refl; seen = refl }; unmarking = (refl, tt) }
unmarks_status s true fewer = moves-to (stays s) (ap (λ (b : Bool). record s { status_doubted = b }) (fewer refl))

-- marks may be taken away
pub unmarks : (s : DoubtState) (es : List Entry) (b : Bool) → HasFewerMarks s.entries es → (b ≡ true → s.status_doubted ≡ true)
    → MovesUnmarking s [] (record s { entries = es; status_doubted = b })
unmarks s es b fewer known = quietly_then (unmarks_entries s [] s.entries es fewer) (unmarks_status (record s { entries = es }) b known)

-- from a state to one that differs only in having fewer marks
pub fewer_marks : (v w : DoubtState) → HasFewerMarks v.entries w.entries → v.status ≡ w.status
    → (w.status_doubted ≡ true → v.status_doubted ≡ true)
    → v.sender_down ≡ w.sender_down → v.receiver_down ≡ w.receiver_down → MovesUnmarking v [] w
fewer_marks v w fewer status doubted sender receiver =
    moves-to (unmarks v w.entries w.status_doubted fewer doubted) (state-eq _ w refl status refl sender receiver)

-- each of these messages is in doubt
abbrev pub AllDoubted : List Entry → Type 0
AllDoubted [] = Unit {0}
AllDoubted (e ∷ es) = (e.doubted ≡ true) × AllDoubted es

-- the status once these messages have left before those: it is settled if one left, and the last one
abbrev pub settled_without : List Entry → List Entry → Status → Status
settled_without [] later status = status
settled_without (e ∷ es) later status = settled_before later status No

-- messages in doubt may leave from between others
leaves_between : (s : DoubtState) (before group later : List Entry) → AllDoubted group
    → MovesUnmarking (record s { entries = before ++ (group ++ later) }) []
    (record s { entries = before ++ later; status = settled_without group later s.status })
leaves_between s before [] later doubted = stays _
leaves_between s before (e ∷ []) later doubted =
    record {
      moves = record { changes = leave before e later ∷ []; allowed = ((doubted.0, refl), tt); reached = refl; seen = refl };
      unmarking = (refl, tt);
    }
leaves_between s before (e ∷ f ∷ group) later doubted =
    quietly_then
    (record {
      moves =
          record { changes = leave before e (f ∷ (group ++ later)) ∷ []; allowed = ((doubted.0, refl), tt); reached = refl; seen = refl };
      unmarking = (refl, tt);
    })
    (leaves_between s before (f ∷ group) later doubted.1)

-- a group of messages in doubt may leave
pub leaves : (s : DoubtState) (before group later : List Entry) → AllDoubted group → s.entries ≡ before ++ (group ++ later)
    → MovesUnmarking s [] (record s { entries = before ++ later; status = settled_without group later s.status })
leaves s before group later doubted stand =
    moves-from (ap (λ (es : List Entry). record s { entries = es }) stand) (leaves_between s before group later doubted)
