-- Runs of the queue that explain calls.
use Rattle.std.specs.Prelude.{◌≡◌, List}
use Rattle.amo_object.specs.declared.step.Step.{Step}
use Rattle.amo_object.specs.Run.{IsRun, without_losses}

-- a run of the queue that has, with its losses left out, exactly these calls
pub record Explains (run : List Step) (calls : List Step) : Type 0 where
  pub is_run : IsRun run
  pub seen : without_losses run ≡ calls

-- some run explains these calls
abbrev pub IsExplained : List Step → Type 0
IsExplained calls = (run : List Step) × Explains run calls
