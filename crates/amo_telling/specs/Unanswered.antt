-- What is told of puts that had no answer.
use Rattle.std.specs.Prelude.{◌≡◌, ◌≢◌, ℕ, Bool, true, false, not, if◌then◌else◌, Option, Some, None, List, ◌++◌, codes}
use Rattle.std.specs.Fmt.{decimal}
use Rattle.amo_text.specs.Line.{Lacks}
use Rattle.amo_journal.specs.declared.numbered.Numbered.{Numbered}
use Rattle.amo_journal.specs.declared.version.Version.{Version}
use Rattle.amo_journal.specs.Journal.{InRange, line_text}
use Rattle.amo_core.specs.declared.act.Act.{Act}
use Rattle.amo_core.specs.declared.act.Act.TheVariants as act
use Rattle.amo_packet.specs.declared.packet.OwnedBody.{OwnedBody}
use Rattle.amo_packet.specs.declared.packet.OwnedBody.TheVariants as packet
use Rattle.amo_outcomes.specs.declared.sender_outcome.SenderOutcome.{SenderOutcome}
use Rattle.amo_outcomes.specs.declared.sender_outcome.SenderOutcome.TheVariants.{Got, Gone, Open, Unknown}
use Rattle.amo_lives.specs.declared.doubt.Span.{Span}
use Rattle.amo_telling.specs.declared.put_outcome.PutOutcome.{PutOutcome}
use Rattle.amo_telling.specs.declared.put_outcome.PutOutcome.TheVariants.{BySender}
use Rattle.amo_telling.specs.declared.unanswered.Progress.{Progress}
use Rattle.amo_telling.specs.declared.unanswered.Progress.TheVariants.{Whole, Gap, Malformed}
use Rattle.amo_telling.specs.declared.unanswered.Told.{Told}
use Rattle.amo_telling.specs.declared.unanswered.Told.TheVariants as told
use Rattle.amo_telling.specs.Outcomes.{as_told}
use Rattle.amo_telling.specs.Shown.{line_end}

-- what is told of a put, as a field of a line, and as members of an object
abbrev pub told_field : Told → List ℕ
told_field told.Gone = codes " gone "
told_field told.Unknown = codes " unknown "

abbrev pub told_member : Told → List ℕ
told_member told.Gone = codes ",\"event\":\"gone\",\"line\":"
told_member told.Unknown = codes ",\"event\":\"unknown\",\"line\":"

-- the front of its line, up to the message
abbrev pub told_front : Bool → ℕ → ℕ → Told → List ℕ
told_front json number stream what =
    if json then codes "{\"stream\":" ++ decimal stream ++ told_member what ++ decimal number ++ codes "," else (decimal stream ++ told_field what)

-- and the line
abbrev pub told_line : Bool → ℕ → ℕ → Told → List ℕ → List ℕ
told_line json number stream what message = told_front json number stream what ++ line_end json message

-- the line that tells that what became of a stream's messages is settled that were told as unknown
abbrev pub settled_line : Bool → ℕ → List ℕ
settled_line json stream =
    if json then codes "{\"stream\":" ++ decimal stream ++ codes ",\"event\":\"settled\"}\n" else (decimal stream ++ codes " settled\n")

-- what is told of a put that became this of: nothing where it was got; else that it is gone, where a crash forgets or forgot it before it was
-- sent, or that this is unknown
abbrev pub told_word : PutOutcome → Option Told
told_word (BySender Got) = None
told_word (BySender Gone) = Some told.Gone
told_word (BySender Open) = Some told.Gone
told_word _ = Some told.Unknown

-- the word for a put on the line of this number, where these are doubtful
abbrev pub word_at : List Span → ℕ → SenderOutcome → Option Told
word_at doubts number outcome = told_word (as_told doubts number (BySender outcome))

-- and for one of which nothing is known
abbrev pub told_if : List Span → ℕ → Option SenderOutcome → Option Told
told_if doubts number None = Some told.Unknown
told_if doubts number (Some outcome) = word_at doubts number outcome

-- an act brings an ack
abbrev pub is_ack_body : OwnedBody → Bool
is_ack_body (packet.Ack id got) = true
is_ack_body _ = false

abbrev pub is_ack : Act → Bool
is_ack (act.Deliver p word) = is_ack_body p.body
is_ack _ = false

-- a put of which this is known was sent
abbrev pub is_sent : Option SenderOutcome → Bool
is_sent (Some Got) = true
is_sent (Some (Unknown settled)) = true
is_sent _ = false

-- it is settled what became of a put
abbrev pub is_answer : SenderOutcome → Bool
is_answer Got = true
is_answer (Unknown true) = true
is_answer _ = false

-- where that is known
abbrev pub is_settled : Option SenderOutcome → Bool
is_settled None = false
is_settled (Some outcome) = is_answer outcome

-- a put is told to be unknown, and it may still be got
abbrev pub is_unsettled : Option SenderOutcome → Option Told → Bool
is_unsettled outcome (Some told.Unknown) = not (is_settled outcome)
is_unsettled outcome _ = false

-- or it is settled what became of it
abbrev pub is_settled_by_now : Option SenderOutcome → Option Told → Bool
is_settled_by_now outcome (Some told.Unknown) = is_settled outcome
is_settled_by_now outcome _ = false

-- why no line is read behind others: the first one that is left is refused, or is none, or there is no whole one
abbrev pub StopsBy : Version → (Numbered → Type 0) → List ℕ → Progress → Type 0
StopsBy version Refused rest Whole = Lacks 10 rest
StopsBy version Refused rest Malformed = (¬ (Lacks 10 rest)) × ((line : Numbered) (more : List ℕ) → InRange version line → rest ≢ line_text line ++ more)
StopsBy version Refused rest Gap = (line : Numbered) × (more : List ℕ) × InRange version line × (rest ≡ line_text line ++ more) × Refused line
