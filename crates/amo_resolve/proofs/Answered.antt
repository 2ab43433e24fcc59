-- Calls that are told yes next: what must wait is just what is got before the answer.
use Rattle.std.proofs.Common.{◌≡◌, ℕ, suc, Bool, true, false, List, [], ◌∷◌, take, refl, sym, subst}
use Rattle.amo_object.specs.declared.step.Step.{Step}
use Rattle.amo_object.specs.declared.step.Step.TheVariants.{Put, Get, Ack, Crash, Recover, DownReply, Lose, LoseAck}
use Rattle.amo_object.specs.Delivery.{messages_got, empty}
use Rattle.amo_resolve.specs.declared.plan.Note.{Note}
use Rattle.amo_resolve.specs.Plan.{Leaves, is_told_yes, got_before_answer, Takes, Choose, wanted_of, GoesOn, IsPlan}
use Rattle.amo_resolve.proofs.Subsequences.{leaves-refl, leaves-cons}

-- so many of the first ones got are what must wait, and the last of what waits is the last of these
abbrev pub IsTold : (List (List ℕ) → Type 0) → List (List ℕ) → ℕ → Type 0
IsTold P got n = (xs : List (List ℕ)) → P xs → P (take n got) × Leaves true (take n got) xs

told_here : (told : Bool) (n : ℕ) (got : List (List ℕ)) → told ≡ true → IsTold (λ xs. Leaves told (take n got) xs) got n
told_here told n got is = λ xs goes.
    (subst (λ (mode : Bool). Leaves mode (take n got) (take n got)) (sym is) (leaves-refl true (take n got)), subst (λ (mode : Bool). Leaves mode (take n got) xs) is goes)

told_after : (down told : Bool) (wanted n : ℕ) (got : List (List ℕ)) (Q : List (List ℕ) → Type 0) → told ≡ true → (down ≡ true → wanted ≡ n) → IsTold Q got n
    → IsTold (λ xs. Choose down (Leaves told (take wanted got) xs) (Q xs)) got n
told_after true told wanted n got Q is due later = subst (λ (k : ℕ). IsTold (λ (xs : List (List ℕ)). Leaves told (take wanted got) xs) got k) (due refl) (told_here told wanted got is)
told_after false told wanted n got Q is due later = later

told_got : (m : List ℕ) (P : List (List ℕ) → Type 0) (got : List (List ℕ)) (n : ℕ) → IsTold P got n → IsTold (λ xs. Takes (Get m) xs P) (m ∷ got) (suc n)
told_got m P got n told xs goes =
    let rest = told goes.0 goes.2 in
    ((take n got, refl, rest.0), subst (λ (ys : List (List ℕ)). Leaves true (m ∷ take n got) ys) (sym goes.1) (leaves-cons true m (take n got) goes.0 rest.1))

pub goes_on_told : (calls : List Step) (notes : List Note) → is_told_yes calls ≡ true → IsPlan calls notes
    → IsTold (GoesOn calls notes) (messages_got calls) (got_before_answer calls)
goes_on_told [] notes told plan = absurd cc
goes_on_told (call ∷ calls) [] told plan = absurd plan
goes_on_told (Put m ∷ calls) (note ∷ notes) told plan = absurd cc
goes_on_told (Ack false ∷ calls) (note ∷ notes) told plan = absurd cc
goes_on_told (Ack true ∷ calls) (note ∷ notes) told plan = λ xs goes.
    ((refl, goes.1), subst (λ (ys : List (List ℕ)). Leaves true [] ys) (sym goes.0) (empty, refl))
goes_on_told (Get m ∷ calls) (note ∷ notes) told plan =
    told_got m (λ (rest : List (List ℕ)). Choose note.is_down (Leaves (is_told_yes calls) (wanted_of calls note) rest) (GoesOn calls notes rest)) (messages_got calls) (got_before_answer calls)
    (told_after note.is_down (is_told_yes calls) note.wanted (got_before_answer calls) (messages_got calls) (GoesOn calls notes) told (λ down. plan.0.1 down told) (goes_on_told calls notes told plan.1))
goes_on_told (Crash side ∷ calls) (note ∷ notes) told plan =
    told_after note.is_down (is_told_yes calls) note.wanted (got_before_answer calls) (messages_got calls) (GoesOn calls notes) told (λ down. plan.0.1 down told) (goes_on_told calls notes told plan.1)
goes_on_told (Recover side ∷ calls) (note ∷ notes) told plan =
    told_after note.is_down (is_told_yes calls) note.wanted (got_before_answer calls) (messages_got calls) (GoesOn calls notes) told (λ down. plan.0.1 down told) (goes_on_told calls notes told plan.1)
goes_on_told (DownReply side ∷ calls) (note ∷ notes) told plan =
    told_after note.is_down (is_told_yes calls) note.wanted (got_before_answer calls) (messages_got calls) (GoesOn calls notes) told (λ down. plan.0.1 down told) (goes_on_told calls notes told plan.1)
goes_on_told (Lose place ∷ calls) (note ∷ notes) told plan =
    told_after note.is_down (is_told_yes calls) note.wanted (got_before_answer calls) (messages_got calls) (GoesOn calls notes) told (λ down. plan.0.1 down told) (goes_on_told calls notes told plan.1)
goes_on_told (LoseAck ∷ calls) (note ∷ notes) told plan =
    told_after note.is_down (is_told_yes calls) note.wanted (got_before_answer calls) (messages_got calls) (GoesOn calls notes) told (λ down. plan.0.1 down told) (goes_on_told calls notes told plan.1)
