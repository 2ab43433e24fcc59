-- What a sender's own events tell of a put.
use Rattle.std.specs.Prelude.{◌≡◌, ℕ, ◌+◌, ◌<◌, true, false, Some, List, ◌++◌, length, slice_get}
use Rattle.std.specs.List.{Contains}
use Rattle.amo_core.specs.declared.sender.SenderMode.{SenderMode}
use Rattle.amo_world.specs.declared.event.Event.{Event}
use Rattle.amo_object.specs.declared.step.End.TheVariants.{Sender}
use Rattle.amo_world.specs.History.{stream_after, Extends, events_at}
use Rattle.amo_outcomes.specs.declared.sender_outcome.SenderOutcome.{SenderOutcome}
use Rattle.amo_outcomes.specs.declared.sender_outcome.SenderOutcome.TheVariants.{Got, Gone, Open, Unknown}
use Rattle.amo_outcomes.specs.Puts.{Puts, puts_after}
use Rattle.amo_outcomes.specs.Outcome.{asking}
use Rattle.amo_outcomes.specs.Heard.{Heard, all_sent, heard_after}

-- the puts for which the sender asks for an identifier, and those that wait
abbrev pub unsent_of : SenderMode → Puts → List ℕ
unsent_of mode p = asking mode p.carried ++ p.waiting

-- by the sender's mode, the puts and what was heard
abbrev pub IsOutcome : SenderMode → Puts → Heard → ℕ → SenderOutcome → Type 0
IsOutcome mode p h put Got = Contains h.got put
IsOutcome mode p h put Gone = (put < p.count) × (¬ (Contains (all_sent p.sent) put)) × (¬ (Contains (unsent_of mode p) put))
IsOutcome mode p h put Open = Contains (unsent_of mode p) put
IsOutcome mode p h put (Unknown true) = Contains h.settled put × (¬ (Contains h.got put))
IsOutcome mode p h put (Unknown false) = Contains (all_sent p.sent) put × (¬ (Contains h.settled put)) × (¬ (Contains h.got put))

-- A put was got where an ack said so. It is gone where it was put and no more waits, nor is an identifier asked for it, and it was never sent:
-- a crash forgot it. It is open while it waits or an identifier is asked for it. Else it is unknown, and settled where an ack said that its
-- identifier is not known, or a later message was sent.
abbrev pub HasSenderOutcome : ℕ → List Event → ℕ → SenderOutcome → Type 0
HasSenderOutcome number events put outcome =
    IsOutcome (stream_after number events).sender.state.mode (puts_after number events) (heard_after number events) put outcome

-- at the sender of a stream, one history goes on from another: the events there are these, or go on from these
abbrev pub GoesOnAtSender : ℕ → List Event → List Event → Type 0
GoesOnAtSender number later earlier = Extends (events_at number Sender later) (events_at number Sender earlier)

-- what is told of each put that a stream took, in order
pub record AreSenderOutcomes (number : ℕ) (events : List Event) (told : List SenderOutcome) : Type 0 where
  pub count : length told ≡ (puts_after number events).count
  pub each : (put : ℕ) (outcome : SenderOutcome) → slice_get told put ≡ Some outcome → HasSenderOutcome number events put outcome

-- of the puts of the first so many streams, that of stream 1 first
pub record SendersTold (events : List Event) (many : ℕ) (all : List (List SenderOutcome)) : Type 0 where
  pub count : length all ≡ many
  pub each : (place : ℕ) (told : List SenderOutcome) → slice_get all place ≡ Some told → AreSenderOutcomes (place + 1) events told
