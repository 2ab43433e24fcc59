-- What a sender's journal alone tells of puts.
use Rattle.std.specs.Prelude.{◌≡◌, List, [], ℕ, reverse}
use Rattle.amo_world.specs.declared.event.Event.{Event}
use Rattle.amo_audit.specs.Sender.{IsSenders}
use Rattle.amo_audit.specs.declared.sender_found.SenderFound.{SenderFound}
use Rattle.amo_audit.specs.declared.sender_found.SenderFound.TheVariants.{Good}
use Rattle.amo_lives.specs.declared.doubt.Span.{Span}
use Rattle.amo_telling.specs.declared.choice.Choice.{Choice}
use Rattle.amo_telling.specs.Outcomes.{IsKnownAlone, Tells, by}

-- the text tells what the events of a sender's journal, which are right and fresh, tell of each of its puts
abbrev pub IsTellingAlone : Choice → List ℕ → List Span → List ℕ → Type 0
IsTellingAlone choice bytes doubts text = (events : List Event) × IsSenders bytes events × Tells (IsKnownAlone (reverse events)) (by choice doubts) [] events text

-- what is written where this is found
abbrev pub TellsFound : SenderFound → Choice → List ℕ → List Span → List ℕ → Type 0
TellsFound Good choice bytes doubts text = IsTellingAlone choice bytes doubts text
TellsFound _ choice bytes doubts text = text ≡ []
