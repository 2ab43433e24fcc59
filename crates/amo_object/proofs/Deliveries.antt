-- What runs deliver: each message got was put, in that order and at most once.
use Rattle.std.proofs.Common.{◌≡◌, ◌≤◌, ℕ, Bool, true, false, zero, suc, Some, List, [], ◌∷◌, ◌++◌, length, Contains, arith, refl, sym, ◌∙◌, ap, subst, append_assoc, slice_get, remove}
use Rattle.std.proofs.lemmas.List.{append-nil}
use Rattle.std.proofs.lemmas.Option.{same_Some}
use Rattle.amo_object.specs.declared.step.End.{End}
use Rattle.amo_object.specs.declared.step.End.TheVariants.{Sender, Receiver}
use Rattle.amo_object.specs.declared.step.Step.{Step}
use Rattle.amo_object.specs.declared.step.Step.TheVariants.{Put, Get, Crash, Recover, Lose, LoseAck}
use Rattle.amo_object.specs.Queue.{QueueState, after, is_any_down, set_down}
use Rattle.amo_object.specs.Run.{IsRunFrom, after_all, without_losses, IsCrashFree}
use Rattle.amo_object.specs.Delivery.{messages_put, messages_got, IsSubsequence, empty, keep, leave_out}
use Rattle.amo_object.proofs.Runs.{is_any_down-after}

-- no element is a subsequence of any list
IsSubsequence-nil : {X : Type 0} (ys : List X) → IsSubsequence [] ys
IsSubsequence-nil [] = empty
IsSubsequence-nil (y ∷ ys) = leave_out (IsSubsequence-nil ys)

-- what holds of the subsequences of a tail carries over to the list
IsSubsequence-tail : {X : Type 0} {xs : List X} {y : X} {ys : List X} (zs : List X) → ((us : List X) → IsSubsequence us ys → IsSubsequence us zs) → IsSubsequence xs (y ∷ ys) → IsSubsequence xs (y ∷ zs)
IsSubsequence-tail zs more (keep sub) = keep (more _ sub)
IsSubsequence-tail zs more (leave_out sub) = leave_out (more _ sub)

-- a subsequence of a list with one element less is one of the list
IsSubsequence-remove : {X : Type 0} (ys more : List X) (i : ℕ) (xs : List X) → IsSubsequence xs (remove ys i ++ more) → IsSubsequence xs (ys ++ more)
IsSubsequence-remove [] more zero xs sub = sub
IsSubsequence-remove [] more (suc i) xs sub = sub
IsSubsequence-remove (y ∷ ys) more zero xs sub = leave_out sub
IsSubsequence-remove (y ∷ ys) more (suc i) xs sub = IsSubsequence-tail (ys ++ more) (IsSubsequence-remove ys more i) sub

-- the first message stands before the others
first-remove : (messages : List (List ℕ)) (m : List ℕ) → slice_get messages 0 ≡ Some m → messages ≡ m ∷ remove messages 0
first-remove [] m e = absurd cc
first-remove (x ∷ messages) m e = ap (λ (y : List ℕ). y ∷ messages) (same_Some x m e)

-- a crash and a recovery leave the messages
pub messages-set_down : (s : QueueState) (side : End) (down : Bool) → s.messages ≡ (set_down s side down).messages
messages-set_down s Sender down = refl
messages-set_down s Receiver down = refl

-- what a run gets was waiting or is put in it: in that order, and each message at most once
pub IsSubsequence-messages_got : (s : QueueState) (run : List Step) → IsRunFrom s run → IsSubsequence (messages_got run) (s.messages ++ messages_put run)
IsSubsequence-messages_got s [] allowed = IsSubsequence-nil (s.messages ++ [])
IsSubsequence-messages_got s (Put m ∷ run) allowed =
    subst (λ (all : List (List ℕ)). IsSubsequence (messages_got run) all)
    (append_assoc s.messages (m ∷ []) (messages_put run))
    (IsSubsequence-messages_got (after s (Put m)) run allowed.1)
IsSubsequence-messages_got s (Get m ∷ run) allowed =
    subst (λ (waiting : List (List ℕ)). IsSubsequence (m ∷ messages_got run) (waiting ++ messages_put run))
    (sym (first-remove s.messages m allowed.0.1))
    (keep (IsSubsequence-messages_got (after s (Get m)) run allowed.1))
IsSubsequence-messages_got s (Lose place ∷ run) allowed =
    IsSubsequence-remove s.messages (messages_put run) place _ (IsSubsequence-messages_got (after s (Lose place)) run allowed.1)
IsSubsequence-messages_got s (Crash side ∷ run) allowed =
    rw (messages-set_down s side true) (IsSubsequence-messages_got (after s (Crash side)) run allowed.1)
IsSubsequence-messages_got s (Recover side ∷ run) allowed =
    rw (messages-set_down s side false) (IsSubsequence-messages_got (after s (Recover side)) run allowed.1)
IsSubsequence-messages_got s (step ∷ run) allowed = IsSubsequence-messages_got (after s step) run allowed.1

-- while both sides are up and no host crashes, what waited or is put is what is got and still waits
pub messages_put-crash_free : (s : QueueState) (run : List Step) → is_any_down s ≡ false → IsCrashFree run → IsRunFrom s run → s.messages ++ messages_put run ≡ messages_got run ++ (after_all s run).messages
messages_put-crash_free s [] up quiet allowed = append-nil s.messages
messages_put-crash_free s (Put m ∷ run) up quiet allowed =
    sym (append_assoc s.messages (m ∷ []) (messages_put run)) ∙ messages_put-crash_free (after s (Put m)) run up quiet allowed.1
messages_put-crash_free s (Get m ∷ run) up quiet allowed =
    ap (λ (waiting : List (List ℕ)). waiting ++ messages_put run) (first-remove s.messages m allowed.0.1)
    ∙ ap (λ (rest : List (List ℕ)). m ∷ rest) (messages_put-crash_free (after s (Get m)) run up quiet allowed.1)
messages_put-crash_free s (Recover side ∷ run) up quiet allowed =
    ap (λ (waiting : List (List ℕ)). waiting ++ messages_put run) (messages-set_down s side false)
    ∙ messages_put-crash_free (after s (Recover side)) run (is_any_down-after s (Recover side) run up quiet) quiet allowed.1
messages_put-crash_free s (Crash side ∷ run) up quiet allowed = absurd cc
messages_put-crash_free s (Lose place ∷ run) up quiet allowed = let down = allowed.0.0 in absurd cc
messages_put-crash_free s (LoseAck ∷ run) up quiet allowed = let down = allowed.0 in absurd cc
messages_put-crash_free s (step ∷ run) up quiet allowed = messages_put-crash_free (after s step) run up quiet allowed.1

-- a loss puts nothing and gets nothing
pub messages_put-without_losses : (run : List Step) → messages_put (without_losses run) ≡ messages_put run
messages_put-without_losses [] = refl
messages_put-without_losses (Put m ∷ run) = ap (λ (rest : List (List ℕ)). m ∷ rest) (messages_put-without_losses run)
messages_put-without_losses (step ∷ run) = messages_put-without_losses run

pub messages_got-without_losses : (run : List Step) → messages_got (without_losses run) ≡ messages_got run
messages_got-without_losses [] = refl
messages_got-without_losses (Get m ∷ run) = ap (λ (rest : List (List ℕ)). m ∷ rest) (messages_got-without_losses run)
messages_got-without_losses (step ∷ run) = messages_got-without_losses run

-- a subsequence has no element that the list lacks
pub Contains-subsequence : {X : Type 0} {xs ys : List X} (m : X) → IsSubsequence xs ys → Contains xs m → Contains ys m
Contains-subsequence m empty found = found
Contains-subsequence m (keep sub) (zero, within, same) = (0, omega arith, same)
Contains-subsequence m (keep sub) (suc k, within, same) =
    let rest = Contains-subsequence m sub (k, omega (arith, within), same) in
    (suc rest.0, omega (arith, rest.1), rest.2)
Contains-subsequence m (leave_out sub) found =
    let rest = Contains-subsequence m sub found in
    (suc rest.0, omega (arith, rest.1), rest.2)

-- a subsequence is no longer than the list
pub length-subsequence : {X : Type 0} {xs ys : List X} → IsSubsequence xs ys → length xs ≤ length ys
length-subsequence empty = omega arith
length-subsequence (keep sub) = omega (arith, length-subsequence sub)
length-subsequence (leave_out sub) = omega (arith, length-subsequence sub)

-- a subsequence as long as the list is the list
pub whole-subsequence : {X : Type 0} {xs ys : List X} → IsSubsequence xs ys → length xs ≡ length ys → xs ≡ ys
whole-subsequence empty same = refl
whole-subsequence (keep sub) same = let rest = whole-subsequence sub (omega (arith, same)) in cc
whole-subsequence (leave_out sub) same = absurd (omega (arith, length-subsequence sub, same))
