-- Runs of one step more.
use Rattle.std.proofs.Common.{◌≡◌, ℕ, ◌+◌, ◌<◌, Bool, true, false, Result, Ok, Err, IfOk, List, [], ◌∷◌, ◌++◌, refl, sym, ◌∙◌, ap, subst, take, get_or, length}
use Rattle.std.proofs.lemmas.List.{append-nil, take_more}
use Rattle.amo_object.specs.declared.step.Step.{Step}
use Rattle.amo_object.specs.declared.step.Step.TheVariants.{Put, Get, Ack, Crash, Recover, DownReply, Lose, LoseAck}
use Rattle.amo_object.specs.Queue.{QueueState, start, Allows, after}
use Rattle.amo_object.specs.Run.{IsRun, after_all, is_loss, without_losses}
use Rattle.amo_object.proofs.Runs.{after_all-append, IsRunFrom-append, without_losses-append}
use Rattle.amo_resolve.specs.declared.draft.Draft.{Draft}
use Rattle.amo_resolve.specs.Explanation.{Explains, IsExplained}
use Rattle.amo_resolve.specs.Telling.{IsPushed, OnlyLost}
use Rattle.amo_resolve.specs.Weaving.{woven, LeadsTo}
use Rattle.amo_resolve.proofs.Falls.{Serves}
use Rattle.amo_resolve.proofs.Weaving.{told_on}

-- one step more
leads_pushed : (draft longer : Draft) (calls : List Step) (queue next : QueueState) (x : Step) → LeadsTo draft calls queue → IsPushed draft queue x longer next
    → LeadsTo longer (calls ++ without_losses (x ∷ [])) next
leads_pushed draft longer calls queue next x leads pushed =
    let run : List Step = woven calls draft.marks.items in
    let told = told_on draft longer calls x leads.counted pushed.told in
    record {
      is_run = subst IsRun (sym told.steps)
          (IsRunFrom-append start run (x ∷ []) leads.is_run (subst (λ (q : QueueState). Allows q x × Unit {0}) (sym leads.reached) (pushed.allowed, tt)));
      seen = ap without_losses told.steps ∙ without_losses-append run (x ∷ []) ∙ ap (λ (steps : List Step). steps ++ without_losses (x ∷ [])) leads.seen;
      reached = ap (after_all start) told.steps ∙ after_all-append start run (x ∷ []) ∙ ap (λ (q : QueueState). after q x) leads.reached ∙ sym pushed.reached;
      counted = told.counted;
    }

-- a loss is not seen
unseen : (x : Step) → is_loss x ≡ true → without_losses (x ∷ []) ≡ []
unseen (Lose place) loss = refl
unseen LoseAck loss = refl
unseen (Put m) loss = absurd cc
unseen (Get m) loss = absurd cc
unseen (Ack answer) loss = absurd cc
unseen (Crash side) loss = absurd cc
unseen (Recover side) loss = absurd cc
unseen (DownReply side) loss = absurd cc

-- and every other step is
seen : (x : Step) → is_loss x ≡ false → without_losses (x ∷ []) ≡ x ∷ []
seen (Lose place) call = absurd cc
seen LoseAck call = absurd cc
seen (Put m) call = refl
seen (Get m) call = refl
seen (Ack answer) call = refl
seen (Crash side) call = refl
seen (Recover side) call = refl
seen (DownReply side) call = refl

pub lost_on : (run longer : Draft) (queue next : QueueState) (x : Step) → is_loss x ≡ true → IsPushed run queue x longer next
    → OnlyLost run queue longer next
lost_on run longer queue next x loss pushed = λ calls leads.
    subst (λ (steps : List Step). LeadsTo longer steps next) (ap (λ (more : List Step). calls ++ more) (unseen x loss) ∙ append-nil calls)
    (leads_pushed run longer calls queue next x leads pushed)

pub lost_then : (run more longer : Draft) (queue next last : QueueState) → OnlyLost run queue more next → OnlyLost more next longer last
    → OnlyLost run queue longer last
lost_then run more longer queue next last first later = λ calls leads. later calls (first calls leads)

-- the call at a place is told
pub call_told : (run longer : Draft) (calls : List Step) (place : ℕ) (queue next : QueueState) (x : Step) → place < length calls
    → x ≡ get_or calls place x → is_loss x ≡ false
    → IsPushed run queue x longer next → LeadsTo run (take place calls) queue → LeadsTo longer (take (place + 1) calls) next
call_told run longer calls place queue next x within is call pushed leads =
    subst (λ (steps : List Step). LeadsTo longer steps next)
    (ap (λ (more : List Step). take place calls ++ more) (seen x call) ∙ ap (λ (y : Step). take place calls ++ y ∷ []) is ∙ sym (take_more calls place x within))
    (leads_pushed run longer (take place calls) queue next x leads pushed)

-- calls that are explained are those of some run from the start
pub serves_start : (calls : List Step) → IsExplained calls → Serves start calls
serves_start calls explained = (explained.0, explained.1.is_run, explained.1.seen)

pub explains_told : (draft : Draft) (calls : List Step) (queue : QueueState) → LeadsTo draft calls queue → Explains (woven calls draft.marks.items) calls
explains_told draft calls queue leads = record { is_run = leads.is_run; seen = leads.seen }

-- an answer about a loss
pub lost_after : {F : Type 0} (r : Result Bool F) (run more longer : Draft) (queue next last : QueueState) (x : Step) → is_loss x ≡ true
    → OnlyLost run queue more next
    → IfOk r (λ is. is ≡ true → IsPushed more next x longer last) → IfOk r (λ is. is ≡ true → OnlyLost run queue longer last)
lost_after (Ok is) run more longer queue next last x loss first pushed = λ yes. lost_then run more longer queue next last first (lost_on more longer next last x loss (pushed yes))
lost_after (Err e) run more longer queue next last x loss first pushed = tt
