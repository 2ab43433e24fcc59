-- What is told of puts of earlier lives.
use Rattle.std.specs.Prelude.{◌≡◌, ◌≢◌, ℕ, ◌+◌, ◌<◌, ◌^◌, ◌==◌, ◌&&◌, ◌||◌, nat_le, Bool, true, false, if◌then◌else◌, Option, Some, None, List, position, slice_get}
use Rattle.std.specs.List.{list_any}
use Rattle.amo_door.specs.declared.answer.Fate.{Fate}
use Rattle.amo_door.specs.declared.answer.Fate.TheVariants as fate
use Rattle.amo_lives.specs.declared.doubt.Span.{Span}
use Rattle.amo_lives.specs.declared.life.Life.{Life}
use Rattle.amo_lives.specs.Life.{tag_field}
use Rattle.amo_outcomes.specs.declared.sender_outcome.SenderOutcome.{SenderOutcome}
use Rattle.amo_outcomes.specs.declared.sender_outcome.SenderOutcome.TheVariants as told

-- what is told of a put of which the sender's own events tell this. What a loss of power may have changed is not known.
abbrev pub fate_of : SenderOutcome → Bool → Fate
fate_of told.Got doubtful = fate.Got
fate_of (told.Unknown true) doubtful = fate.Settled
fate_of (told.Unknown false) doubtful = fate.Unknown
fate_of told.Gone true = fate.Unknown
fate_of told.Gone false = fate.Gone
fate_of told.Open true = fate.Unknown
fate_of told.Open false = fate.Open

-- whether a span has the line of a number, or the one before it
abbrev pub is_near : ℕ → Span → Bool
is_near number span = nat_le span.first number && nat_le number span.end

-- whether a loss of power may have taken lines where a life begins with this one
abbrev pub may_have_lost : List Span → ℕ → Bool
may_have_lost doubts first_line = list_any (is_near first_line) doubts

-- whether the life behind one, if there is one, begins with the journal's first line: the journal had no line before, or lost all that it had
abbrev pub is_followed_at_first : Option Life → Bool
is_followed_at_first None = false
is_followed_at_first (Some next) = next.first_line == 0

-- what is told of a message of a life, if there is the life, of which no line tells: it was never put; or that is unknown, where its line may have been lost
abbrev pub fate_of_life : List Span → Option Life → Option Life → Fate
fate_of_life doubts None next = fate.Never
fate_of_life doubts (Some life) next = if may_have_lost doubts life.first_line || is_followed_at_first next then fate.Unknown else fate.Never

-- what is told of a message of the life at a place, of which no line tells
abbrev pub fate_of_none : List Span → List Life → ℕ → Fate
fate_of_none doubts lives place = fate_of_life doubts (slice_get lives place) (slice_get lives (place + 1))

-- the place among lives of the first one that has the word's tag; none where the word is no tag, or no life has it
pub data IsLifeOf (word : List ℕ) (lives : List Life) (place : Option ℕ) : Type 0 where
  IsNoTag : ((tag : ℕ) → tag < 2 ^ 32 → word ≢ tag_field tag) → place ≡ None → IsLifeOf word lives place
  IsTag : (tag : ℕ) → tag < 2 ^ 32 → word ≡ tag_field tag → place ≡ position (λ (life : Life). life.tag == tag) lives → IsLifeOf word lives place
