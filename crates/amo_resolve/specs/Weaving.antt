-- Losses among calls.
use Rattle.std.specs.Prelude.{◌≡◌, ℕ, ◌+◌, List, [], ◌∷◌, ◌++◌, length, take, drop}
use Rattle.amo_object.specs.declared.step.Step.{Step}
use Rattle.amo_object.specs.declared.step.Step.TheVariants.{Lose, LoseAck}
use Rattle.amo_object.specs.Queue.{QueueState, start}
use Rattle.amo_object.specs.Run.{IsRun, after_all, without_losses}
use Rattle.amo_resolve.specs.declared.draft.Draft.{Draft}
use Rattle.amo_resolve.specs.declared.draft.Loss.{Loss}
use Rattle.amo_resolve.specs.declared.draft.Loss.TheVariants.{Message, Answer}
use Rattle.amo_resolve.specs.declared.draft.Mark.{Mark}
use Rattle.amo_resolve.specs.Explanation.{Explains}

-- the step that a loss is
abbrev pub step_of : Loss → Step
step_of (Message place) = Lose place
step_of Answer = LoseAck

-- these calls, with a loss after so many of them, the next one after so many more, and so on
abbrev pub woven : List Step → List Mark → List Step
woven calls [] = calls
woven calls (mark ∷ marks) = take mark.calls calls ++ step_of mark.loss ∷ woven (drop mark.calls calls) marks

-- how many calls come before the last of the losses
abbrev pub calls_before : List Mark → ℕ
calls_before [] = 0
calls_before (mark ∷ marks) = mark.calls + calls_before marks

-- a draft with a loss more
pub record Loses (draft : Draft) (loss : Loss) (longer : Draft) : Type 0 where
  pub marks : longer.marks.items ≡ draft.marks.items ++ record { calls = draft.since; loss = loss } ∷ []
  pub since : longer.since ≡ 0

-- a draft with a step more
abbrev pub TellsOn : Draft → Step → Draft → Type 0
TellsOn draft (Lose place) longer = Loses draft (Message place) longer
TellsOn draft LoseAck longer = Loses draft Answer longer
TellsOn draft call longer = longer ≡ record draft { since = draft.since + 1 }

-- a run of these calls and of a draft's losses, which leads to this queue
pub record LeadsTo (draft : Draft) (calls : List Step) (queue : QueueState) : Type 0 where
  pub is_run : IsRun (woven calls draft.marks.items)
  pub seen : without_losses (woven calls draft.marks.items) ≡ calls
  pub reached : after_all start (woven calls draft.marks.items) ≡ queue
  pub counted : calls_before draft.marks.items + draft.since ≡ length calls

-- a draft of which the losses, among these calls, make a run that explains them
pub record IsDraft (draft : Draft) (calls : List Step) : Type 0 where
  pub explains : Explains (woven calls draft.marks.items) calls
  pub counted : calls_before draft.marks.items + draft.since ≡ length calls
