-- Runs of the queue, and what is left of one without its losses.
use Rattle.std.specs.Prelude.{◌≡◌, Bool, true, false, not, List, [], ◌∷◌, filter}
use Rattle.std.specs.List.{list_any}
use Rattle.amo_object.specs.declared.step.Step.{Step}
use Rattle.amo_object.specs.declared.step.Step.TheVariants.{Crash, Lose, LoseAck}
use Rattle.amo_object.specs.Queue.{QueueState, start, Allows, after}

-- these steps, one after another, each allowed where it stands
abbrev pub IsRunFrom : QueueState → List Step → Type 0
IsRunFrom s [] = Unit {0}
IsRunFrom s (step ∷ steps) = Allows s step × IsRunFrom (after s step) steps

-- the queue after these steps
abbrev pub after_all : QueueState → List Step → QueueState
after_all s [] = s
after_all s (step ∷ steps) = after_all (after s step) steps

-- a run from an empty queue with both sides up
abbrev pub IsRun : List Step → Type 0
IsRun steps = IsRunFrom start steps

-- whether a step is a loss: a choice of the queue's own, which no client sees
abbrev pub is_loss : Step → Bool
is_loss (Lose place) = true
is_loss LoseAck = true
is_loss _ = false

-- clients see every other step
abbrev pub is_visible : Step → Bool
is_visible step = not (is_loss step)

-- the steps with the losses left out
abbrev pub without_losses : List Step → List Step
without_losses steps = filter is_visible steps

-- whether a step is a crash of a host
abbrev pub is_crash : Step → Bool
is_crash (Crash side) = true
is_crash _ = false

-- no host crashes in these steps
abbrev pub IsCrashFree : List Step → Type 0
IsCrashFree steps = list_any is_crash steps ≡ false
