-- What the file of a call has.
use Rattle.std.specs.Prelude.{ℕ, ◌<◌, ◌^◌, Option, None, Some, List, ◌++◌, codes}
use Rattle.std.specs.Fmt.{decimal}
use Rattle.amo_door.specs.declared.claim.Claim.{Claim}
use Rattle.amo_door.specs.Word.{IsWord}
use Rattle.amo_packet.specs.Stream.{IsStream}
use Rattle.amo_text.specs.Hexadecimal.{hex}
use Rattle.amo_text.specs.Message.{IsMessage}
use Rattle.amo_call.specs.declared.kept.Kept.{Kept}
use Rattle.amo_call.specs.declared.kept.Progress.{Progress}
use Rattle.amo_call.specs.declared.kept.Step.{Step}
use Rattle.amo_call.specs.declared.kept.Step.TheVariants as step
use Rattle.amo_call.specs.declared.kept.Progress.TheVariants.{Putting, Put, Taking, Taken, Done}

-- the word for how far a call is
abbrev pub step_name : Step → List ℕ
step_name step.Putting = codes "putting"
step_name step.Put = codes "put"
step_name step.Taking = codes "taking"
step_name step.Taken = codes "taken"
step_name step.Done = codes "done"

abbrev pub step_of : Progress → Step
step_of (Putting message) = step.Putting
step_of (Put line message) = step.Put
step_of (Taking from) = step.Taking
step_of (Taken line message) = step.Taken
step_of (Done line) = step.Done

abbrev pub progress_name : Progress → List ℕ
progress_name progress = step_name (step_of progress)

-- what a call names: its stream, its number, the host's life, and who calls
abbrev pub claim_text : Claim → List ℕ
claim_text claim = decimal claim.stream ++ codes " " ++ decimal claim.number ++ codes " " ++ claim.life ++ codes " " ++ claim.by

-- the number of a line of the journal, and a message in HEX
abbrev pub line_and_message : ℕ → List ℕ → List ℕ
line_and_message line message = decimal line ++ codes " " ++ hex message

-- what is known beside
abbrev pub progress_tail : Progress → List ℕ
progress_tail (Putting message) = hex message
progress_tail (Put line message) = line_and_message line message
progress_tail (Taking from) = decimal from
progress_tail (Taken line message) = line_and_message line message
progress_tail (Done line) = decimal line

-- what stands in front of what a call names, and behind it
abbrev pub kept_front : Progress → List ℕ
kept_front progress = codes "amo call 1 " ++ progress_name progress ++ codes " "

abbrev pub kept_end : Progress → List ℕ
kept_end progress = codes " " ++ progress_tail progress ++ codes "\n"

-- the file: one line of fields with single spaces between them
abbrev pub kept_text : Kept → List ℕ
kept_text kept = kept_front kept.progress ++ claim_text kept.claim ++ kept_end kept.progress

-- the calls that there are: of a stream, with numbers of 64 bits, by words, of a message that is short
pub record IsClaim (claim : Claim) : Type 0 where
  pub stream : IsStream claim.stream
  pub number : claim.number < 2 ^ 64
  pub life : IsWord claim.life
  pub by : IsWord claim.by

abbrev pub IsProgress : Progress → Type 0
IsProgress (Putting message) = IsMessage message
IsProgress (Put line message) = (line < 2 ^ 64) × IsMessage message
IsProgress (Taking from) = from < 2 ^ 64
IsProgress (Taken line message) = (line < 2 ^ 64) × IsMessage message
IsProgress (Done line) = line < 2 ^ 64

abbrev pub IsKept : Kept → Type 0
IsKept kept = IsClaim kept.claim × IsProgress kept.progress

-- the call whose message is done, where one was taken by it
abbrev pub done_by : Claim → Progress → Option Kept
done_by claim (Taken line message) = Some (record { claim = claim; progress = Done line })
done_by claim (Done line) = Some (record { claim = claim; progress = Done line })
done_by claim _ = None

abbrev pub done_of : Kept → Option Kept
done_of kept = done_by kept.claim kept.progress
