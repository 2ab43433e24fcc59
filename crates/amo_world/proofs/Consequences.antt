-- What the clients of a stream that is served may rely on.
use Rattle.std.proofs.Common.{◌≡◌, ℕ, List, [], ◌∷◌, ◌++◌, refl, ap, sym, ◌∙◌, subst}
use Rattle.std.specs.List.{list_any}
use Rattle.amo_object.specs.declared.step.Step.{Step}
use Rattle.amo_object.specs.declared.step.Step.TheVariants.{Crash}
use Rattle.amo_object.specs.Queue.{start}
use Rattle.amo_object.specs.Run.{after_all, without_losses, is_crash, IsCrashFree}
use Rattle.amo_object.specs.Delivery.{messages_put, messages_got, IsSubsequence}
use Rattle.amo_object.proofs.Runs.{without_losses-crash_free}
use Rattle.amo_object.proofs.Deliveries.{IsSubsequence-messages_got, messages_put-without_losses, messages_got-without_losses, messages_put-crash_free}
use Rattle.amo_world.specs.declared.event.Event.{Event}
use Rattle.amo_world.specs.Served.{calls, IsServed}

-- a loss is no crash
crashes-without_losses : (run : List Step) → list_any is_crash (without_losses run) ≡ list_any is_crash run
crashes-without_losses [] = refl
crashes-without_losses (Crash side ∷ run) = refl
crashes-without_losses (step ∷ run) = crashes-without_losses run

-- what is got was put: in that order, and each message at most once
pub IsSubsequence-served : (number : ℕ) (events : List Event) → IsServed number events
    → IsSubsequence (messages_got (calls number events)) (messages_put (calls number events))
IsSubsequence-served number events served =
    rw (← served.2, messages_got-without_losses served.0, messages_put-without_losses served.0)
    (IsSubsequence-messages_got start served.0 served.1)

-- while no host crashes, what is put is got or still waits
pub messages_put-served : (number : ℕ) (events : List Event) → IsServed number events → IsCrashFree (calls number events)
    → (waiting : List (List ℕ)) × (messages_put (calls number events) ≡ messages_got (calls number events) ++ waiting)
messages_put-served number events served quiet =
    let crash_free : IsCrashFree served.0 = sym (crashes-without_losses served.0) ∙ ap (list_any is_crash) served.2 ∙ quiet in
    let seen : served.0 ≡ calls number events = sym (without_losses-crash_free start served.0 refl crash_free served.1) ∙ served.2 in (
      (after_all start served.0).messages,
      subst (λ (steps : List Step). messages_put steps ≡ messages_got steps ++ (after_all start served.0).messages) seen
          (messages_put-crash_free start served.0 refl crash_free served.1),
    )
