-- Forward simulation: while a side is down marks are set, so that anything may be lost from then on.
use Rattle.std.proofs.Common.{◌≡◌, ℕ, Bool, true, false, List, [], ◌∷◌, ◌++◌, refl, ap, subst, append_assoc}
use Rattle.amo_object.specs.declared.status.Status.TheVariants.{No}
use Rattle.amo_world.specs.Doubt.{Entry, entry, DoubtState, is_any_down, mark, mark_status, unmark_status, settle_status, Moves}
use Rattle.amo_world.proofs.Moving.{stays, quietly_then}
use Rattle.amo_world.proofs.Unmarking.{unmarks_one, AllDoubted}

-- while a side is down, any status may become No, in no doubt
pub settles_while_down : (s : DoubtState) → is_any_down s ≡ true → Moves s [] (record s { status = No; status_doubted = false })
settles_while_down s down =
    record { changes = mark_status ∷ settle_status ∷ unmark_status ∷ []; allowed = (down, (refl, (tt, tt))); reached = refl; seen = refl }

-- two lists of the same messages, whatever their marks
abbrev pub SameMessages : List Entry → List Entry → Type 0
SameMessages [] [] = Unit {0}
SameMessages (e ∷ es) (f ∷ fs) = (e.message ≡ f.message) × SameMessages es fs
SameMessages _ _ = ⊥

-- a list has the messages that it has
pub same-refl : (es : List Entry) → SameMessages es es
same-refl [] = tt
same-refl (e ∷ es) = (refl, same-refl es)

-- two lists joined have the messages of two others joined, if each has those of its own
pub same-append : (xs ys us vs : List Entry) → SameMessages xs us → SameMessages ys vs → SameMessages (xs ++ ys) (us ++ vs)
same-append [] ys [] vs first second = second
same-append (x ∷ xs) ys (u ∷ us) vs first second = (first.0, same-append xs ys us vs first.1 second)
same-append [] ys (u ∷ us) vs first second = absurd first
same-append (x ∷ xs) ys [] vs first second = absurd first

-- while a side is down, one message may be marked, or lose its mark
marks_one : (s : DoubtState) (before : List Entry) (e : Entry) (m : List ℕ) (b : Bool) (later : List Entry) → is_any_down s ≡ true
    → e.message ≡ m
    → Moves (record s { entries = before ++ e ∷ later }) [] (record s { entries = before ++ entry b m ∷ later })
marks_one s before e m false later down same = (unmarks_one s before e m false later same (λ marked. absurd cc)).moves
marks_one s before e m true later down same = record {
  changes = mark before e later ∷ [];
  allowed = ((down, refl), tt);
  reached = ap (λ (x : List ℕ). record s { entries = before ++ entry true x ∷ later }) same;
  seen = refl;
}

-- while a side is down, any marks of the messages behind some others may be set and taken away
marks_entries : (s : DoubtState) (before es fs : List Entry) → is_any_down s ≡ true → SameMessages es fs
    → Moves (record s { entries = before ++ es }) [] (record s { entries = before ++ fs })
marks_entries s before [] [] down same = stays _
marks_entries s before (e ∷ es) (f ∷ fs) down same =
    quietly_then
    (marks_one s before e f.message f.doubted es down same.0)
    (subst (λ (xs : List Entry). Moves (record s { entries = xs }) [] (record s { entries = before ++ f ∷ fs }))
    (append_assoc before (f ∷ []) es)
    (subst (λ (xs : List Entry). Moves (record s { entries = before ++ f ∷ [] ++ es }) [] (record s { entries = xs }))
    (append_assoc before (f ∷ []) fs)
    (marks_entries s (before ++ f ∷ []) es fs down same.1)))
marks_entries s before [] (f ∷ fs) down same = absurd same
marks_entries s before (e ∷ es) [] down same = absurd same

-- while a side is down, the mark of the status may be set and taken away
marks_status : (s : DoubtState) (b : Bool) → is_any_down s ≡ true → Moves s [] (record s { status_doubted = b })
marks_status s false down = record { changes = unmark_status ∷ []; allowed = (tt, tt); reached = refl; seen = refl }
marks_status s true down = record { changes = mark_status ∷ []; allowed = (down, tt); reached = refl; seen = refl }

-- while a side is down, any marks may be set and taken away
pub marks : (s : DoubtState) (es : List Entry) (b : Bool) → is_any_down s ≡ true → SameMessages s.entries es
    → Moves s [] (record s { entries = es; status_doubted = b })
marks s es b down same = quietly_then (marks_entries s [] s.entries es down same) (marks_status (record s { entries = es }) b down)

-- messages, all of them in doubt
abbrev pub doubt_all : List Entry → List Entry
doubt_all [] = []
doubt_all (e ∷ es) = entry true e.message ∷ doubt_all es

pub doubt_all-same : (es : List Entry) → SameMessages es (doubt_all es)
doubt_all-same [] = tt
doubt_all-same (e ∷ es) = (refl, doubt_all-same es)

pub doubt_all-doubted : (es : List Entry) → AllDoubted (doubt_all es)
doubt_all-doubted [] = tt
doubt_all-doubted (e ∷ es) = (refl, doubt_all-doubted es)
