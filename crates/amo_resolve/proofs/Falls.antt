-- What losses leave of a queue, and the first call of a run.
use Rattle.std.proofs.Common.{◌≡◌, ℕ, zero, suc, ◌+◌, ◌<◌, ◌==◌, Bool, true, false, if◌then◌else◌, Some, List, [], ◌∷◌, ◌++◌, length, refl, sym, ◌∙◌, ap, subst, slice_get, remove, arith}
use Rattle.std.proofs.lemmas.Bool.{eqb-false, eqb-true}
use Rattle.std.proofs.lemmas.List.{nil_from_length}
use Rattle.std.proofs.lemmas.List.Edits.{length-remove}
use Rattle.std.proofs.lemmas.Option.{same_Some}
use Rattle.amo_object.specs.declared.step.End.TheVariants.{Sender, Receiver}
use Rattle.amo_object.specs.declared.status.Status.{Status}
use Rattle.amo_object.specs.declared.status.Status.TheVariants.{Yes, No, Open}
use Rattle.amo_object.specs.declared.step.Step.{Step}
use Rattle.amo_object.specs.declared.step.Step.TheVariants.{Put, Get, Ack, Crash, Recover, DownReply, Lose, LoseAck}
use Rattle.amo_object.specs.Queue.{QueueState, Allows, after, settled, is_any_down}
use Rattle.amo_object.specs.Run.{IsRunFrom, after_all, is_loss, without_losses}
use Rattle.amo_object.specs.Delivery.{IsSubsequence, empty, keep, leave_out}
use Rattle.amo_object.proofs.Runs.{IsRunFrom-split, without_losses-split, without_losses-append}
use Rattle.amo_resolve.specs.Plan.{last}
use Rattle.amo_resolve.specs.Telling.{Agrees, IsSound}
use Rattle.amo_resolve.proofs.Subsequences.{subsequence-refl, subsequence-trans, last-cons}

push_some : {X : Type 0} (xs : List X) (x : X) → xs ++ x ∷ [] ≡ [] → ⊥
push_some [] x none = cc
push_some (y ∷ xs) x none = cc

-- the first message stands before the others
pub first_taken : (messages : List (List ℕ)) (m : List ℕ) → slice_get messages 0 ≡ Some m → messages ≡ m ∷ remove messages 0
first_taken [] m e = absurd cc
first_taken (x ∷ messages) m e = ap (λ (y : List ℕ). y ∷ messages) (same_Some x m e)

-- a message that leaves
agrees_lost : (messages : List (List ℕ)) (place : ℕ) (status : Status) (is_last : Bool) → (place + 1 == length messages) ≡ is_last
    → place < length messages → Agrees messages status
    → Agrees (remove messages place) (if is_last then settled status No else status)
agrees_lost messages place Yes is_last e within agrees = absurd (omega (arith, within, ap length agrees))
agrees_lost messages place No true e within agrees = tt
agrees_lost messages place No false e within agrees = tt
agrees_lost messages place Open true e within agrees = tt
agrees_lost messages place Open false e within agrees = λ none.
    let apart = eqb-false (place + 1) (length messages) e in
    absurd (omega (arith, within, apart, length-remove messages place within, ap length none))

agrees_got : (m : List ℕ) (rest : List (List ℕ)) (status : Status) (is_last : Bool) → (0 + 1 == length (m ∷ rest)) ≡ is_last → Agrees (m ∷ rest) status
    → Agrees rest (if is_last then settled status Yes else status)
agrees_got m rest Yes is_last e agrees = absurd cc
agrees_got m rest No true e agrees = tt
agrees_got m rest No false e agrees = tt
agrees_got m rest Open true e agrees = let one = eqb-true (0 + 1) (length (m ∷ rest)) e in nil_from_length rest (omega (arith, one))
agrees_got m rest Open false e agrees = λ none. let apart = eqb-false (0 + 1) (length (m ∷ rest)) e in absurd (omega (arith, apart, ap length none))

agrees_first : (messages : List (List ℕ)) (m : List ℕ) (status : Status) → slice_get messages 0 ≡ Some m → Agrees messages status
    → Agrees (remove messages 0) (if 0 + 1 == length messages then settled status Yes else status)
agrees_first [] m status first agrees = absurd cc
agrees_first (x ∷ rest) m status first agrees = agrees_got x rest status (0 + 1 == length (x ∷ rest)) refl agrees

-- steps keep a queue sound
pub sound_after : (q : QueueState) (x : Step) → Allows q x → IsSound q → IsSound (after q x)
sound_after q (Put m) allowed sound = push_some q.messages m
sound_after q (Get m) allowed sound = agrees_first q.messages m q.status allowed.1 sound
sound_after q (Ack answer) allowed sound = sound
sound_after q (Crash Sender) allowed sound = sound
sound_after q (Crash Receiver) allowed sound = sound
sound_after q (Recover Sender) allowed sound = sound
sound_after q (Recover Receiver) allowed sound = sound
sound_after q (DownReply side) allowed sound = sound
sound_after q (Lose place) allowed sound = agrees_lost q.messages place q.status (place + 1 == length q.messages) refl allowed.1 sound
sound_after q LoseAck allowed sound = tt

-- what losses leave
pub record Falls (q x : QueueState) : Type 0 where
  pub part : IsSubsequence x.messages q.messages
  pub sender : x.sender_down ≡ q.sender_down
  pub receiver : x.receiver_down ≡ q.receiver_down
  pub kept : (x.status ≡ No → ⊥) → last x.messages ≡ last q.messages
  pub lost : q.status ≡ No → x.status ≡ No
  pub sound : IsSound x
  pub up : is_any_down q ≡ false → x ≡ q

pub falls-refl : (q : QueueState) → IsSound q → Falls q q
falls-refl q sound = record {
  part = subsequence-refl q.messages;
  sender = refl;
  receiver = refl;
  kept = λ known. refl;
  lost = λ e. e;
  sound = sound;
  up = λ e. refl;
}

pub subsequence-remove : {X : Type 0} (xs : List X) (place : ℕ) → IsSubsequence (remove xs place) xs
subsequence-remove [] zero = empty
subsequence-remove [] (suc place) = empty
subsequence-remove (x ∷ xs) zero = leave_out (subsequence-refl xs)
subsequence-remove (x ∷ xs) (suc place) = keep (subsequence-remove xs place)

pub last-remove : {X : Type 0} (xs : List X) (place : ℕ) → place + 1 < length xs → last (remove xs place) ≡ last xs
last-remove [] place within = absurd (omega (arith, within))
last-remove (x ∷ []) zero within = absurd (omega (arith, within))
last-remove (x ∷ y ∷ xs) zero within = refl
last-remove (x ∷ xs) (suc place) within = last-cons x (remove xs place) xs (last-remove xs place (omega (arith, within)))

settled_lost : (is_last : Bool) (status : Status) → status ≡ No → (if is_last then settled status No else status) ≡ No
settled_lost true No e = refl
settled_lost false No e = refl
settled_lost is_last Yes e = absurd cc
settled_lost is_last Open e = absurd cc

kept_lost : (messages : List (List ℕ)) (place : ℕ) (status : Status) (is_last : Bool) → (place + 1 == length messages) ≡ is_last
    → place < length messages → Agrees messages status
    → ((if is_last then settled status No else status) ≡ No → ⊥) → last (remove messages place) ≡ last messages
kept_lost messages place Yes is_last e within agrees known = absurd (omega (arith, within, ap length agrees))
kept_lost messages place No true e within agrees known = absurd (known refl)
kept_lost messages place No false e within agrees known = absurd (known refl)
kept_lost messages place Open true e within agrees known = absurd (known refl)
kept_lost messages place Open false e within agrees known = let apart = eqb-false (place + 1) (length messages) e in last-remove messages place (omega (arith, within, apart))

falls_by : (losses : List Step) (q : QueueState) → without_losses losses ≡ [] → IsRunFrom q losses → IsSound q → Falls q (after_all q losses)
falls_by [] q none run sound = falls-refl q sound
falls_by (Lose place ∷ losses) q none run sound =
    let more = falls_by losses (after q (Lose place)) none run.1 (sound_after q (Lose place) run.0 sound) in
    record {
      part = subsequence-trans more.part (subsequence-remove q.messages place);
      sender = more.sender;
      receiver = more.receiver;
      kept = λ known. more.kept known ∙ kept_lost q.messages place q.status (place + 1 == length q.messages) refl run.0.1 sound (λ gone. known (more.lost gone));
      lost = λ gone. more.lost (settled_lost (place + 1 == length q.messages) q.status gone);
      sound = more.sound;
      up = λ up. let down = run.0.0 in absurd cc;
    }
falls_by (LoseAck ∷ losses) q none run sound =
    let more = falls_by losses (after q LoseAck) none run.1 tt in
    record {
      part = more.part;
      sender = more.sender;
      receiver = more.receiver;
      kept = λ known. absurd (known (more.lost refl));
      lost = λ gone. more.lost refl;
      sound = more.sound;
      up = λ up. let down = run.0 in absurd cc;
    }
falls_by (call ∷ losses) q none run sound = absurd cc

-- some run from this queue has, with its losses left out, exactly these calls
abbrev pub Serves : QueueState → List Step → Type 0
Serves q calls = (run : List Step) × IsRunFrom q run × (without_losses run ≡ calls)

-- a call is no loss
no_loss : (run : List Step) (call : Step) (calls : List Step) → without_losses run ≡ call ∷ calls → is_loss call ≡ false
no_loss [] call calls e = absurd cc
no_loss (Lose place ∷ run) call calls e = no_loss run call calls e
no_loss (LoseAck ∷ run) call calls e = no_loss run call calls e
no_loss (Put m ∷ run) call calls e = let same : Put m ≡ call = cc in ap is_loss (sym same)
no_loss (Get m ∷ run) call calls e = let same : Get m ≡ call = cc in ap is_loss (sym same)
no_loss (Ack answer ∷ run) call calls e = let same : Ack answer ≡ call = cc in ap is_loss (sym same)
no_loss (Crash side ∷ run) call calls e = let same : Crash side ≡ call = cc in ap is_loss (sym same)
no_loss (Recover side ∷ run) call calls e = let same : Recover side ≡ call = cc in ap is_loss (sym same)
no_loss (DownReply side ∷ run) call calls e = let same : DownReply side ≡ call = cc in ap is_loss (sym same)

-- losses, then the first call, and the rest
pub record First (q : QueueState) (call : Step) (calls : List Step) : Type 0 where
  pub here : QueueState
  pub falls : Falls q here
  pub allowed : Allows here call
  pub rest : Serves (after here call) calls
  pub serves : Serves here (call ∷ calls)
  pub seen : is_loss call ≡ false

pub first_call : (q : QueueState) (call : Step) (calls : List Step) → IsSound q → Serves q (call ∷ calls) → First q call calls
first_call q call calls sound serves =
    let parts = without_losses-split serves.0 [] call calls serves.2 in
    let runs = IsRunFrom-split q parts.0 (call ∷ parts.1) (subst (λ (steps : List Step). IsRunFrom q steps) parts.2 serves.1) in
    let seen : without_losses (call ∷ parts.1) ≡ call ∷ calls =
    ap (λ (steps : List Step). steps ++ without_losses (call ∷ parts.1)) (sym parts.3) ∙ sym (without_losses-append parts.0 (call ∷ parts.1)) ∙ ap without_losses (sym parts.2) ∙ serves.2 in
    record {
      here = after_all q parts.0;
      falls = falls_by parts.0 q parts.3 runs.0 sound;
      allowed = runs.1.0;
      rest = (parts.1, runs.1.1, parts.4);
      serves = (call ∷ parts.1, runs.1, seen);
      seen = no_loss serves.0 call calls serves.2;
    }
