-- The lines at which two journals stop: each is that of the first event that is left out.
use Rattle.std.proofs.Common.{ℕ, ◌+◌, ◌<◌, ◌≤◌, ◌^◌, Option, None, Some, List, length, refl, arith}
use Rattle.std.specs.Prelude.{IfSome}
use Rattle.amo_world.specs.declared.event.Event.{Event}
use Rattle.amo_journal.specs.declared.lines.Lines.{Lines}
use Rattle.amo_journal.specs.Lines.{Tell}
use Rattle.amo_audit.specs.declared.reach.Reach.TheVariants.{Whole}
use Rattle.amo_audit.specs.declared.stops.Stops.{Stops}
use Rattle.amo_audit.specs.Judgement.{AreApart, OfBoth}
use Rattle.amo_audit.specs.Merge.{IsPreferred}
use Rattle.amo_audit.specs.Stops.{Stop, StopAt, of_reach}
use Rattle.amo_audit.proofs.Beginnings.{all_begin}
use Rattle.amo_audit.proofs.Named.{few_events}

-- where all of both merge, neither stops
pub none_stops : (first second : Lines) (x y merged : List Event) → Tell x first → Tell y second → AreApart x y → IsPreferred x y merged → OfBoth first second (StopAt (of_reach Whole))
none_stops first second x y merged p q apart preferred =
    (x, y, p, q, record { apart = apart; first = x; second = y; merged = merged; beginnings = all_begin x y merged preferred; first_stops = refl; second_stops = refl })

-- the lines are few
stop_within : (at : Option ℕ) (x front : List Event) (text : List ℕ) → Stop at x front → length x ≤ length text → length text < 2 ^ 63 → IfSome at (λ line. line + 1 < 2 ^ 64)
stop_within None x front text stop few short = tt
stop_within (Some at) x front text stop few short = omega (arith, stop.0, stop.1, few, short)

module _ (first second : Lines) (stops : Stops) (short : length first.text.now < 2 ^ 63) (short' : length second.text.now < 2 ^ 63) where
  pub first_within : OfBoth first second (StopAt stops) → IfSome stops.first (λ line. line + 1 < 2 ^ 64)
  first_within (x, y, p, q, it) = stop_within stops.first x it.first first.text.now it.first_stops (few_events first x p) short

  pub second_within : OfBoth first second (StopAt stops) → IfSome stops.second (λ line. line + 1 < 2 ^ 64)
  second_within (x, y, p, q, it) = stop_within stops.second y it.second second.text.now it.second_stops (few_events second y q) short'
