-- Backward simulation, of marks: what may stand for the queue in doubt after a mark is set, is taken away or tells of a loss may have stood
-- for it before; only where a mark is set may the queue lose something meanwhile.
use Rattle.std.proofs.Common.{◌≡◌, ℕ, Bool, true, false, ◌||◌, List, [], ◌∷◌, ◌++◌, length, refl, sym, ◌∙◌, ap, subst, inl, inr, arith}
use Rattle.std.proofs.lemmas.List.{length-append}
use Rattle.amo_object.specs.declared.status.Status.{Status}
use Rattle.amo_object.specs.declared.status.Status.TheVariants.{No}
use Rattle.amo_object.specs.declared.step.Step.{Step}
use Rattle.amo_object.specs.declared.step.Step.TheVariants.{Lose, LoseAck}
use Rattle.amo_object.specs.Queue as queue
use Rattle.amo_world.specs.Doubt.{Entry, entry, DoubtState, mark, unmark, leave, mark_status, unmark_status, settle_status, settled_before, Allows}
use Rattle.amo_world.specs.Resolution.{Fate, entries_of, messages_kept, KeepsUndoubted, keeps_last, ResolvesStatus, Runs}
use Rattle.amo_world.proofs.Fates.{fate, entries_of-append, messages_kept-append, KeepsUndoubted-append, KeepsUndoubted-split, KeepsUndoubted-replaced, keeps_last-append, keeps_last-remarked, messages_kept-remarked, joined_fates, cut_fates}
use Rattle.amo_world.proofs.Statuses.{stands_sure, stands_settled, stands_or_lost, left_status, before_loss, stands_before_loss, left_status-before_loss, stands_left}
use Rattle.amo_world.proofs.Resolutions.{queue_of, Fits, LedFrom, RunFrom, IsLedTo, IsRunTo, same_queue, resolves_from, no_step, leads_to_same, led_from, run_from, without-middle}

-- and so it does after the mark of the status is taken away
pub IsLedTo-unmark_status : (s : DoubtState) → IsLedTo s unmark_status
IsLedTo-unmark_status s fates known fits =
    led_from s [] _ fates known
    (record {
      of = fits.of;
      undoubted = fits.undoubted;
      status = stands_sure s.status (keeps_last fates) s.status_doubted known fits.status;
    }) (no_step _)

-- and after a status in doubt is settled
pub IsLedTo-settle_status : (s : DoubtState) → s.status_doubted ≡ true → IsLedTo s settle_status
IsLedTo-settle_status s marked fates known fits =
    led_from s [] _ fates known
    (record {
      of = fits.of;
      undoubted = fits.undoubted;
      status = stands_settled s.status (keeps_last fates) s.status_doubted known marked fits.status;
    }) (no_step _)

-- fates of a queue in doubt and a status, cut at an entry: what is said of both where they fit this queue
abbrev FitsCut : DoubtState → List Fate → Entry → Bool → List Fate → Status → Type 0
FitsCut s first e kept rest known =
    KeepsUndoubted (first ++ fate e kept ∷ rest) × ResolvesStatus s.status (keeps_last (first ++ fate e kept ∷ rest)) s.status_doubted known

-- where the mark of an entry changes, what stands comes from the same fates, if they fit the entry as it was
remarked : (s : DoubtState) (first : List Fate) (e : Entry) (doubted kept : Bool) (rest : List Fate) (known : Status)
    → s.entries ≡ entries_of first ++ e ∷ entries_of rest → kept || e.doubted ≡ true
    → FitsCut s first (entry doubted e.message) kept rest known
    → LedFrom s [] (queue_of s (first ++ fate (entry doubted e.message) kept ∷ rest) known)
remarked s first e doubted kept rest known of fits cut =
    led_from s [] _ (first ++ fate e kept ∷ rest) known
    (record {
      of = entries_of-append first (fate e kept ∷ rest) ∙ sym of;
      undoubted = KeepsUndoubted-replaced first (fate (entry doubted e.message) kept) (fate e kept) rest fits cut.0;
      status = rw (keeps_last-remarked first e doubted kept rest) cut.1;
    })
    (rw (messages_kept-remarked first e doubted kept rest) (no_step _))

-- where the mark of an entry changes, it is enough to look at fates cut at that entry
from_cut : (s : DoubtState) (before : List Entry) (e : Entry) (later : List Entry) (doubted : Bool) (fates : List Fate) (known : Status)
    → (Holds : List Fate → Type 0) → s.entries ≡ before ++ e ∷ later
    → ((first : List Fate) (kept : Bool) (rest : List Fate) → s.entries ≡ entries_of first ++ e ∷ entries_of rest
    → FitsCut s first (entry doubted e.message) kept rest known → Holds (first ++ fate (entry doubted e.message) kept ∷ rest))
    → Fits (record s { entries = before ++ entry doubted e.message ∷ later }) fates known → Holds fates
from_cut s before e later doubted fates known Holds of back fits =
    let cut = cut_fates fates before (entry doubted e.message) later fits.of in
    rw cut.all
    (back cut.first cut.kept cut.rest (rw (cut.of_first, cut.of_rest) of) (
      subst KeepsUndoubted cut.all fits.undoubted,
      subst (λ (xs : List Fate). ResolvesStatus s.status (keeps_last xs) s.status_doubted known) cut.all fits.status,
    ))

-- what is kept unless it is in no doubt is kept in any case
kept_anyway : (kept doubted : Bool) → kept || false ≡ true → kept || doubted ≡ true
kept_anyway true doubted fits = refl
kept_anyway false doubted fits = absurd cc

-- after the mark of an entry is taken away, what stands comes from the same fates
pub IsLedTo-unmark : (s : DoubtState) (before : List Entry) (e : Entry) (later : List Entry) → Allows s (unmark before e later)
    → IsLedTo s (unmark before e later)
IsLedTo-unmark s before e later of fates known fits =
    from_cut s before e later false fates known (λ (xs : List Fate). LedFrom s [] (queue_of s xs known)) of
    (λ first kept rest of_all cut. remarked s first e false kept rest known of_all
    (kept_anyway kept e.doubted (KeepsUndoubted-split first (fate (entry false e.message) kept ∷ rest) cut.0).1.0) cut)
    fits

-- after an entry leaves, what stands comes from the same fates, and it not kept
pub IsLedTo-leave : (s : DoubtState) (before : List Entry) (e : Entry) (later : List Entry) → Allows s (leave before e later)
    → IsLedTo s (leave before e later)
IsLedTo-leave s before e later allowed fates known fits =
    let parts = joined_fates fates before later fits.of in
    let undoubted = KeepsUndoubted-split parts.first parts.then (subst KeepsUndoubted parts.all fits.undoubted) in
    led_from s [] _ (parts.first ++ fate e false ∷ parts.then) known
    (record {
      of = entries_of-append parts.first (fate e false ∷ parts.then) ∙ rw (parts.of_first, parts.of_then) (sym allowed.1);
      undoubted = KeepsUndoubted-append parts.first (fate e false ∷ parts.then) undoubted.0 (allowed.0, undoubted.1);
      status = stands_left parts.first e parts.then s.status s.status_doubted known
          (rw parts.of_then
          (subst (λ (xs : List Fate). ResolvesStatus (settled_before later s.status No) (keeps_last xs) s.status_doubted known)
          parts.all fits.status));
    })
    (leads_to_same _ _ _ []
    (same_queue _ _ _ _ _ _ _ _
    (messages_kept-append parts.first (fate e false ∷ parts.then) ∙ sym (messages_kept-append parts.first parts.then) ∙ ap messages_kept
    (sym parts.all)) refl refl refl)
    (no_step _))

-- while a side is down, a message may be lost
loses : (xs : List (List ℕ)) (m : List ℕ) (ys : List (List ℕ)) (status : Status) (sender receiver : Bool) → sender || receiver ≡ true
    → Runs (record { messages = xs ++ m ∷ ys; status = status; sender_down = sender; receiver_down = receiver }) []
    (record { messages = xs ++ ys; status = left_status ys status No; sender_down = sender; receiver_down = receiver })
loses xs m ys status sender receiver down = record {
  run = Lose (length xs) ∷ [];
  allowed = ((down, omega (arith, length-append xs (m ∷ ys))), tt);
  reached = without-middle xs m ys status No sender receiver;
  seen = refl;
}

-- runs between queues that are the same
same_runs : (r u t v : queue.QueueState) (steps : List Step) → r ≡ u → t ≡ v → Runs r steps t → Runs u steps v
same_runs r u t v steps same_start same_end runs =
    subst (λ (x : queue.QueueState). Runs u steps x) same_end (subst (λ (x : queue.QueueState). Runs x steps t) same_start runs)

-- after an entry is marked and where it is not kept, what stands comes from it kept, and it is lost since
lost_again : (s : DoubtState) (first : List Fate) (e : Entry) (rest : List Fate) (known : Status) → Allows s mark_status
    → s.entries ≡ entries_of first ++ e ∷ entries_of rest → FitsCut s first (entry true e.message) false rest known
    → RunFrom s [] (queue_of s (first ++ fate (entry true e.message) false ∷ rest) known)
lost_again s first e rest known down of cut =
    let lost = fate (entry true e.message) false in
    let stands = subst (λ (last : Bool). ResolvesStatus s.status last s.status_doubted known) (keeps_last-append first lost rest) cut.1 in
    let before = before_loss rest s.status known in record {
      before = queue_of s (first ++ fate e true ∷ rest) before;
      resolves = resolves_from s (first ++ fate e true ∷ rest) before (record {
        of = entries_of-append first (fate e true ∷ rest) ∙ sym of;
        undoubted = KeepsUndoubted-replaced first lost (fate e true) rest refl cut.0;
        status = rw (keeps_last-append first (fate e true) rest) (stands_before_loss rest e s.status s.status_doubted known stands);
      });
      runs = same_runs _ _ _ _ []
          (same_queue _ _ _ _ _ _ _ _ (sym (messages_kept-append first (fate e true ∷ rest))) refl refl refl)
          (same_queue _ _ _ _ _ _ _ _ (sym (messages_kept-append first (lost ∷ rest)))
          (left_status-before_loss rest e s.status s.status_doubted known stands) refl refl)
          (loses (messages_kept first) e.message (messages_kept rest) before s.sender_down s.receiver_down down);
    }

-- after the status is marked, what stands comes from the same fates, and nothing is lost since or the status is
pub IsRunTo-mark_status : (s : DoubtState) → Allows s mark_status → IsRunTo s mark_status
IsRunTo-mark_status s down fates known fits = elim (stands_or_lost s.status (keeps_last fates) s.status_doubted known fits.status) [
  | inl stands ↦
      run_from s [] _ refl (led_from s [] _ fates known (record { of = fits.of; undoubted = fits.undoubted; status = stands }) (no_step _))
  | inr lost ↦ record {
    before = queue_of s fates s.status;
    resolves = resolves_from s fates s.status (record { of = fits.of; undoubted = fits.undoubted; status = lost.1 });
    runs = record { run = LoseAck ∷ []; allowed = (down, tt); reached = ap (λ (x : Status). queue_of s fates x) (sym lost.0); seen = refl };
  }
]

-- after an entry is marked, what stands comes from the same fates, or from it kept
pub IsRunTo-mark : (s : DoubtState) (before : List Entry) (e : Entry) (later : List Entry) → Allows s (mark before e later)
    → IsRunTo s (mark before e later)
IsRunTo-mark s before e later allowed fates known fits =
    from_cut s before e later true fates known (λ (xs : List Fate). RunFrom s [] (queue_of s xs known)) allowed.1 by fits
  where
    by : (first : List Fate) (kept : Bool) (rest : List Fate) → s.entries ≡ entries_of first ++ e ∷ entries_of rest
        → FitsCut s first (entry true e.message) kept rest known
        → RunFrom s [] (queue_of s (first ++ fate (entry true e.message) kept ∷ rest) known)
    by first true rest of cut = run_from s [] _ refl (remarked s first e true true rest known of refl cut)
    by first false rest of cut = lost_again s first e rest known allowed.0 of cut
