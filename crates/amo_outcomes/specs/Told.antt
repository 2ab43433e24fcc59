-- What is told of the puts of a history.
use Rattle.std.specs.Prelude.{◌≡◌, ℕ, ◌+◌, Some, List, length, slice_get}
use Rattle.amo_world.specs.declared.event.Event.{Event}
use Rattle.amo_outcomes.specs.declared.outcome.Outcome.{Outcome}
use Rattle.amo_outcomes.specs.declared.follower.Follower.{Follower}
use Rattle.amo_outcomes.specs.Puts.{puts_after}
use Rattle.amo_outcomes.specs.Outcome.{HasOutcome}
use Rattle.amo_outcomes.specs.Follower.{IsFollowed}

-- the outcome of each put that a stream took, in order
pub record AreOutcomes (number : ℕ) (events : List Event) (told : List Outcome) : Type 0 where
  pub count : length told ≡ (puts_after number events).count
  pub each : (put : ℕ) (outcome : Outcome) → slice_get told put ≡ Some outcome → HasOutcome number events put outcome

-- a follower of each of the streams 1 to 256
pub record AreFollowed (followers : List Follower) (past : List Event) : Type 0 where
  pub count : length followers ≡ 256
  pub each : (place : ℕ) (f : Follower) → slice_get followers place ≡ Some f → IsFollowed f (place + 1) past

-- the outcomes of the puts of the first so many streams, that of stream 1 first
pub record StreamsTold (events : List Event) (many : ℕ) (all : List (List Outcome)) : Type 0 where
  pub count : length all ≡ many
  pub each : (place : ℕ) (told : List Outcome) → slice_get all place ≡ Some told → AreOutcomes (place + 1) events told
