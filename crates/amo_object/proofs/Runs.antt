-- Runs that are joined and cut, and what is left of them without their losses.
use Rattle.std.proofs.Common.{◌≡◌, Bool, true, false, ◌||◌, List, [], ◌∷◌, ◌++◌, refl, ap}
use Rattle.std.specs.List.{list_any}
use Rattle.std.proofs.lemmas.List.Elements.{filter-append}
use Rattle.amo_object.specs.declared.step.End.TheVariants.{Sender, Receiver}
use Rattle.amo_object.specs.declared.step.Step.{Step}
use Rattle.amo_object.specs.declared.step.Step.TheVariants.{Crash, Recover, Lose, LoseAck}
use Rattle.amo_object.specs.Queue.{QueueState, after, is_any_down}
use Rattle.amo_object.specs.Run.{IsRunFrom, after_all, is_visible, without_losses, is_crash, IsCrashFree}

-- two lists of steps joined lead where the second leads from where the first leads
pub after_all-append : (s : QueueState) (xs ys : List Step) → after_all s (xs ++ ys) ≡ after_all (after_all s xs) ys
after_all-append s [] ys = refl
after_all-append s (x ∷ xs) ys = after_all-append (after s x) xs ys

-- a run continued by a run from where it leads is a run
pub IsRunFrom-append : (s : QueueState) (xs ys : List Step) → IsRunFrom s xs → IsRunFrom (after_all s xs) ys → IsRunFrom s (xs ++ ys)
IsRunFrom-append s [] ys first then = then
IsRunFrom-append s (x ∷ xs) ys first then = (first.0, IsRunFrom-append (after s x) xs ys first.1 then)

-- a beginning of a run is a run, and so is the rest of it
pub IsRunFrom-split : (s : QueueState) (xs ys : List Step) → IsRunFrom s (xs ++ ys) → IsRunFrom s xs × IsRunFrom (after_all s xs) ys
IsRunFrom-split s [] ys run = (tt, run)
IsRunFrom-split s (x ∷ xs) ys run = let rest = IsRunFrom-split (after s x) xs ys run.1 in ((run.0, rest.0), rest.1)

-- leaving losses out of two runs joined is joining what is left of each
pub without_losses-append : (xs ys : List Step) → without_losses (xs ++ ys) ≡ without_losses xs ++ without_losses ys
without_losses-append xs ys = filter-append is_visible xs ys

-- neither of two is true where their disjunction is false
or-false : (a b : Bool) → a || b ≡ false → (a ≡ false) × (b ≡ false)
or-false false b e = (refl, e)
or-false true b e = absurd cc

-- where no side is down, none is after a step that is no crash
pub is_any_down-after : (s : QueueState) (x : Step) (xs : List Step) → is_any_down s ≡ false → IsCrashFree (x ∷ xs) → is_any_down (after s x) ≡ false
is_any_down-after s (Crash side) xs up quiet = absurd cc
is_any_down-after s (Recover Sender) xs up quiet = (or-false s.sender_down s.receiver_down up).1
is_any_down-after s (Recover Receiver) xs up quiet = rw (or-false s.sender_down s.receiver_down up).0
is_any_down-after s _ xs up quiet = up

-- the steps after the first are free of crashes too
pub IsCrashFree-tail : (x : Step) (xs : List Step) → IsCrashFree (x ∷ xs) → IsCrashFree xs
IsCrashFree-tail x xs quiet = (or-false (is_crash x) (list_any is_crash xs) quiet).1

-- while both sides are up and no host crashes, a run has no loss
pub without_losses-crash_free : (s : QueueState) (xs : List Step) → is_any_down s ≡ false → IsCrashFree xs → IsRunFrom s xs → without_losses xs ≡ xs
without_losses-crash_free s [] up quiet run = refl
without_losses-crash_free s (Lose place ∷ xs) up quiet run = let down = run.0.0 in absurd cc
without_losses-crash_free s (LoseAck ∷ xs) up quiet run = let down = run.0 in absurd cc
without_losses-crash_free s (x ∷ xs) up quiet run =
    ap (λ (rest : List Step). x ∷ rest) (without_losses-crash_free (after s x) xs (is_any_down-after s x xs up quiet) (IsCrashFree-tail x xs quiet) run.1)

-- a step that stands among the steps without the losses stands in the run, with the same around it
pub without_losses-split : (run before : List Step) (x : Step) (later : List Step) → without_losses run ≡ before ++ x ∷ later
    → (first : List Step) × (more : List Step) × (run ≡ first ++ x ∷ more) × (without_losses first ≡ before) × (without_losses more ≡ later)
without_losses-split [] [] x later e = absurd cc
without_losses-split [] (y ∷ before) x later e = absurd cc
without_losses-split (Lose place ∷ run) before x later e =
    let parts = without_losses-split run before x later e in
    (Lose place ∷ parts.0, parts.1, ap (λ (steps : List Step). Lose place ∷ steps) parts.2, parts.3, parts.4)
without_losses-split (LoseAck ∷ run) before x later e =
    let parts = without_losses-split run before x later e in
    (LoseAck ∷ parts.0, parts.1, ap (λ (steps : List Step). LoseAck ∷ steps) parts.2, parts.3, parts.4)
without_losses-split (step ∷ run) [] x later e = ([], run, cc, refl, cc)
without_losses-split (step ∷ run) (y ∷ before) x later e =
    let parts = without_losses-split run before x later cc in
    (step ∷ parts.0, parts.1, ap (λ (steps : List Step). step ∷ steps) parts.2, cc, parts.4)
