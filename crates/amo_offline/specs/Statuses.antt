-- The statuses with which a command ends.
use Rattle.std.specs.Prelude.{◌≡◌, ◌≢◌, ◌⊎◌, ℕ, List, Option}
use Rattle.std.specs.Borrow.{Bor}
use Rattle.amo_audit.specs.declared.judgement.Judgement.{Judgement}
use Rattle.amo_audit.specs.Judgement.{JudgesFiles, judgement_status}
use Rattle.amo_replay.specs.declared.endings.Ending.{Ending}
use Rattle.amo_replay.specs.Ending.{status_of}
use Rattle.amo_replay.specs.Transcript.{IsTranscript}

-- that of what is found of these bytes, and of these if there are any
abbrev pub IsOfJudgement : List ℕ → Option (Bor (List ℕ)) → ℕ → Type 0
IsOfJudgement first second status = (judgement : Judgement) × (JudgesFiles first second judgement × ((status ≡ judgement_status judgement) × (status ≢ 4)))

-- that of how a replay of these bytes ends
abbrev pub IsOfReplay : List ℕ → ℕ → Type 0
IsOfReplay bytes status = (texts : List (List ℕ)) × ((ending : Ending) × (IsTranscript bytes texts ending × (status ≡ status_of ending)))

-- that of an answer: 4 is a failure's alone
abbrev pub IsOfAnswer : ℕ → Type 0
IsOfAnswer status = status ≢ 4

-- that of a journal that was read to its end, or of what is none
abbrev pub IsOfReading : ℕ → Type 0
IsOfReading status = (status ≡ 0) ⊎ (status ≡ 2)
