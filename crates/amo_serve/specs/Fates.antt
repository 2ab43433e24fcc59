-- What is told of puts of the present life.
use Rattle.std.specs.Prelude.{ℕ, ◌-◌, ◌==◌, ◌||◌, nat_lt, Bool, if◌then◌else◌, Option, Some, None}
use Rattle.amo_door.specs.declared.answer.Fate.{Fate}
use Rattle.amo_door.specs.declared.answer.Fate.TheVariants as fate

-- what is told of the message of a number of this life, where so many were put, of which so many at the end wait or travel, and it is known to have been
-- got or not: nothing where it was not put yet
abbrev pub present_fate : ℕ → ℕ → ℕ → Bool → Option Fate
present_fate unsettled put number was_got =
    if (number == 0) || nat_lt put number then None
    else (if nat_lt (put - number) unsettled then Some fate.Open else (if was_got then Some fate.Got else Some fate.Settled))
