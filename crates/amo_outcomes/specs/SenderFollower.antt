-- A stream as its sender's own events are followed.
use Rattle.std.specs.Prelude.{◌≡◌, ℕ, ◌+◌, Some, List, length, slice_get}
use Rattle.amo_core.specs.Sender.{SenderState}
use Rattle.amo_world.specs.declared.event.Event.{Event}
use Rattle.amo_world.specs.History.{stream_after}
use Rattle.amo_outcomes.specs.declared.sender_follower.SenderFollower.{SenderFollower}
use Rattle.amo_outcomes.specs.Puts.{Puts, puts_after}
use Rattle.amo_outcomes.specs.Heard.{Heard, heard_after}
use Rattle.amo_outcomes.specs.SenderPlaces.{Keeps}

-- a follower is at this state of the sender, with these puts and what was heard of them
pub record FollowsSender (f : SenderFollower) (s : SenderState) (p : Puts) (h : Heard) : Type 0 where
  pub sender : f.sender ≡ s
  pub places : Keeps f.places s.mode p h

abbrev pub IsSenderFollowed : SenderFollower → ℕ → List Event → Type 0
IsSenderFollowed f number past = FollowsSender f (stream_after number past).sender.state (puts_after number past) (heard_after number past)

-- a follower of the sender of each of the streams 1 to 256
pub record SendersFollowed (followers : List SenderFollower) (past : List Event) : Type 0 where
  pub count : length followers ≡ 256
  pub each : (place : ℕ) (f : SenderFollower) → slice_get followers place ≡ Some f → IsSenderFollowed f (place + 1) past
