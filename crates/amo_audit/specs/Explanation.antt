-- The explanation of a journal, as text: for each stream the run of the queue that its clients saw, a line a step.
use Rattle.std.specs.Prelude.{◌≡◌, ℕ, true, false, List, [], ◌∷◌, codes}
use Rattle.std.specs.List.{flat_map}
use Rattle.std.specs.Fmt.{decimal}
use Rattle.amo_object.specs.declared.step.Step.{Step}
use Rattle.amo_object.specs.declared.step.Step.TheVariants.{Put, Get, Ack, Crash, Recover, DownReply, Lose, LoseAck}
use Rattle.amo_resolve.specs.declared.resolver.Run.{Run}
use Rattle.amo_resolve.specs.Resolved.{IsResolved}
use Rattle.amo_text.specs.Hexadecimal.{hex}
use Rattle.amo_text.specs.Line.{line_of}
use Rattle.amo_text.specs.Side.{letter_of}
use Rattle.amo_world.specs.declared.event.Event.{Event}
use Rattle.amo_audit.specs.declared.verdict.Verdict.{Verdict}
use Rattle.amo_audit.specs.declared.verdict.Verdict.TheVariants as verdict
use Rattle.amo_journal.specs.declared.lines.Lines.{Lines}
use Rattle.amo_journal.specs.Lines.{Tell}
use Rattle.amo_audit.specs.Audit.{AreOf}
use Rattle.amo_audit.specs.declared.judgement.Judgement.{Judgement}
use Rattle.amo_audit.specs.declared.judgement.Judgement.TheVariants.{Whole}
use Rattle.amo_audit.specs.Judgement.{AreApart, OfBoth}
use Rattle.amo_audit.specs.Merge.{IsPreferred}
use Rattle.amo_resolve.specs.Explanation.{Explains}

-- the fields of a step
abbrev pub step_fields : Step → List (List ℕ)
step_fields (Put m) = codes "put" ∷ hex m ∷ []
step_fields (Get m) = codes "get" ∷ hex m ∷ []
step_fields (Ack true) = codes "ack" ∷ codes "yes" ∷ []
step_fields (Ack false) = codes "ack" ∷ codes "no" ∷ []
step_fields (Crash side) = codes "crash" ∷ letter_of side ∷ []
step_fields (Recover side) = codes "recover" ∷ letter_of side ∷ []
step_fields (DownReply side) = codes "down" ∷ letter_of side ∷ []
step_fields (Lose place) = codes "lose" ∷ decimal place ∷ []
step_fields LoseAck = codes "lose-ack" ∷ []

-- the line of a step of a stream's run
abbrev pub step_line : ℕ → Step → List ℕ
step_line stream step = line_of (decimal stream ∷ step_fields step)

-- the lines of a run
abbrev pub run_text : Run → List ℕ
run_text run = flat_map (step_line run.stream) run.steps.items

-- the lines of runs
abbrev pub runs_text : List Run → List ℕ
runs_text runs = flat_map run_text runs

-- the text spells runs that explain each stream of the events that lines tell of
abbrev pub ExplainsLines : Lines → List ℕ → Type 0
ExplainsLines lines text = (events : List Event) × (runs : List Run) × Tell events lines × IsResolved runs events × (text ≡ runs_text runs)

-- the text explains the journal that the bytes are
abbrev pub IsExplanation : List ℕ → List ℕ → Type 0
IsExplanation bytes text = (lines : Lines) × AreOf bytes lines × ExplainsLines lines text

-- the events are the preferred interleaving of lists that share no side
abbrev pub IsMerged : List Event → List Event → List Event → Type 0
IsMerged merged x y = AreApart x y × IsPreferred x y merged

-- these runs explain each stream of it
abbrev pub MergeIsResolved : List Run → List Event → List Event → Type 0
MergeIsResolved runs x y = (merged : List Event) × IsMerged merged x y × IsResolved runs merged

-- the text spells runs that explain each stream of the merged events of two journals
abbrev pub ExplainsTwo : Lines → Lines → List ℕ → Type 0
ExplainsTwo first second text = (runs : List Run) × OfBoth first second (MergeIsResolved runs) × (text ≡ runs_text runs)

pub record IsExplanationOfBoth (first second text : List ℕ) : Type 0 where
  pub ours : Lines
  pub theirs : Lines
  pub opens : AreOf first ours × AreOf second theirs
  pub explains : ExplainsTwo ours theirs text

-- what is written of two files of which this is found
abbrev pub ExplainsBothIf : Judgement → List ℕ → List ℕ → List ℕ → Type 0
ExplainsBothIf (Whole verdict.Yes) first second text = IsExplanationOfBoth first second text
ExplainsBothIf _ first second text = text ≡ []

-- steps explain whatever others explain
abbrev pub ExplainsAsWell : List Step → List Step → Type 0
ExplainsAsWell others steps = (calls : List Step) → Explains others calls → Explains steps calls

-- what is written of bytes that are judged so
abbrev pub ExplainsIf : Verdict → List ℕ → List ℕ → Type 0
ExplainsIf verdict.Yes bytes text = IsExplanation bytes text
ExplainsIf _ bytes text = text ≡ []
