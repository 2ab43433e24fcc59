-- Backward simulation, of visible steps: after each, what may stand for the queue in doubt is led to by it from what may have stood before.
use Rattle.std.proofs.Common.{◌≡◌, ℕ, Bool, true, false, Some, List, [], ◌∷◌, ◌++◌, refl, sym, ◌∙◌, ap, subst}
use Rattle.amo_object.specs.declared.step.End.{End}
use Rattle.amo_object.specs.declared.step.End.TheVariants.{Sender, Receiver}
use Rattle.amo_object.specs.declared.status.Status.TheVariants.{Yes, Open}
use Rattle.amo_object.specs.declared.step.Step.{Step}
use Rattle.amo_object.specs.declared.step.Step.TheVariants.{Put, Get, Ack, Crash, Recover, DownReply, Lose, LoseAck}
use Rattle.amo_world.specs.Doubt.{Entry, entry, DoubtState, call, settled_before, first, AllowsCall, after}
use Rattle.amo_world.specs.Resolution.{Fate, entries_of, messages_kept, KeepsUndoubted, keeps_last, ResolvesStatus}
use Rattle.amo_world.proofs.Fates.{fate, messages_kept-append, KeepsUndoubted-split, keeps_last-append, cut_fates}
use Rattle.amo_world.proofs.Statuses.{same_sure, some_known, stands_some, known_answer, before_get, stands_before_get, left_status-before_get}
use Rattle.amo_world.proofs.Resolutions.{queue_of, LedFrom, IsLedTo, same_queue, led_from, without-middle}

-- what stands after a crash comes from the same fates before it
IsLedTo-crash : (s : DoubtState) (side : End) → IsLedTo s (call (Crash side))
IsLedTo-crash s Sender fates known fits =
    led_from s (Crash Sender ∷ []) _ fates known (record { of = fits.of; undoubted = fits.undoubted; status = fits.status })
    (record { allowed = (tt, tt); reached = refl })
IsLedTo-crash s Receiver fates known fits =
    led_from s (Crash Receiver ∷ []) _ fates known (record { of = fits.of; undoubted = fits.undoubted; status = fits.status })
    (record { allowed = (tt, tt); reached = refl })

-- and so it does after a recovery
IsLedTo-recover : (s : DoubtState) (side : End) → IsLedTo s (call (Recover side))
IsLedTo-recover s Sender fates known fits =
    led_from s (Recover Sender ∷ []) _ fates known (record { of = fits.of; undoubted = fits.undoubted; status = fits.status })
    (record { allowed = (tt, tt); reached = refl })
IsLedTo-recover s Receiver fates known fits =
    led_from s (Recover Receiver ∷ []) _ fates known (record { of = fits.of; undoubted = fits.undoubted; status = fits.status })
    (record { allowed = (tt, tt); reached = refl })

-- and after an answer that a side is down
IsLedTo-down_reply : (s : DoubtState) (side : End) → AllowsCall s (DownReply side) → IsLedTo s (call (DownReply side))
IsLedTo-down_reply s Sender down fates known fits =
    led_from s (DownReply Sender ∷ []) _ fates known fits (record { allowed = (down, tt); reached = refl })
IsLedTo-down_reply s Receiver down fates known fits =
    led_from s (DownReply Receiver ∷ []) _ fates known fits (record { allowed = (down, tt); reached = refl })

-- after an answer of what became of the last message, what stands comes from the same fates
IsLedTo-ack : (s : DoubtState) (answer : Bool) → AllowsCall s (Ack answer) → IsLedTo s (call (Ack answer))
IsLedTo-ack s answer allowed fates known fits =
    led_from s (Ack answer ∷ []) _ fates known fits
    (record {
      allowed = ((allowed.0, known_answer s.status (keeps_last fates) s.status_doubted known answer allowed.1 allowed.2 fits.status), tt);
      reached = refl;
    })

-- after a message is put, what stands comes from the fates of those before it
IsLedTo-put : (s : DoubtState) (m : List ℕ) → AllowsCall s (Put m) → IsLedTo s (call (Put m))
IsLedTo-put s m up fates known fits =
    let cut = cut_fates fates s.entries (entry false m) [] fits.of in
    rw cut.all (by cut.first cut.kept cut.rest cut.of_first cut.of_rest (subst KeepsUndoubted cut.all fits.undoubted)
    (subst (λ (xs : List Fate). ResolvesStatus Open (keeps_last xs) false known) cut.all fits.status))
  where
    by : (first : List Fate) (kept : Bool) (rest : List Fate) → entries_of first ≡ s.entries → entries_of rest ≡ []
        → KeepsUndoubted (first ++ fate (entry false m) kept ∷ rest)
        → ResolvesStatus Open (keeps_last (first ++ fate (entry false m) kept ∷ rest)) false known
        → LedFrom s (Put m ∷ []) (queue_of (after s (call (Put m))) (first ++ fate (entry false m) kept ∷ rest) known)
    by first kept (f ∷ rest) of none undoubted status = absurd cc
    by first false [] of none undoubted status =
        let kept = (KeepsUndoubted-split first (fate (entry false m) false ∷ []) undoubted).1.0 in absurd cc
    by first true [] of none undoubted status =
        led_from s (Put m ∷ []) _ first (some_known s.status (keeps_last first))
        (record {
          of = of;
          undoubted = (KeepsUndoubted-split first (fate (entry false m) true ∷ []) undoubted).0;
          status = stands_some s.status (keeps_last first) s.status_doubted;
        })
        (record {
          allowed = (up, tt);
          reached = same_queue _ _ _ _ _ _ _ _ (sym (messages_kept-append first (fate (entry false m) true ∷ [])))
              (sym (same_sure Open known
              (subst (λ (last : Bool). ResolvesStatus Open last false known) (keeps_last-append first (fate (entry false m) true) []) status)))
              refl refl;
        })

-- after a message is got, what stands comes from the same fates, and it kept before them
IsLedTo-get : (s : DoubtState) (m : List ℕ) → AllowsCall s (Get m) → IsLedTo s (call (Get m))
IsLedTo-get s m allowed = by s.entries allowed.1
  where
    by : (entries : List Entry) → first entries ≡ Some m → IsLedTo (record s { entries = entries }) (call (Get m))
    by [] same fates known fits = absurd cc
    by (e ∷ entries) same fates known fits =
        let stands =
        subst (λ (es : List Entry). ResolvesStatus (settled_before es s.status Yes) (keeps_last fates) s.status_doubted known)
        (sym fits.of) fits.status in
        led_from (record s { entries = e ∷ entries }) (Get m ∷ []) _ (fate e true ∷ fates) (before_get fates s.status known)
        (record {
          of = ap (λ (es : List Entry). e ∷ es) fits.of;
          undoubted = (refl, fits.undoubted);
          status = stands_before_get fates e s.status s.status_doubted known stands;
        })
        (record {
          allowed = ((allowed.0, same), tt);
          reached = without-middle [] e.message (messages_kept fates) (before_get fates s.status known) Yes s.sender_down s.receiver_down
              ∙ same_queue _ _ _ _ _ _ _ _ refl (left_status-before_get fates s.status s.status_doubted known stands) refl refl;
        })

-- and so after each visible step
pub IsLedTo-call : (s : DoubtState) (step : Step) → AllowsCall s step → IsLedTo s (call step)
IsLedTo-call s (Put m) allowed = IsLedTo-put s m allowed
IsLedTo-call s (Get m) allowed = IsLedTo-get s m allowed
IsLedTo-call s (Ack answer) allowed = IsLedTo-ack s answer allowed
IsLedTo-call s (Crash side) allowed = IsLedTo-crash s side
IsLedTo-call s (Recover side) allowed = IsLedTo-recover s side
IsLedTo-call s (DownReply side) allowed = IsLedTo-down_reply s side allowed
IsLedTo-call s (Lose place) allowed = absurd allowed
IsLedTo-call s LoseAck allowed = absurd allowed
