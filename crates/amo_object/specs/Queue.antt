-- The at-most-once queue of Lampson, Lynch and Søgaard-Andersen (1993), which loses only while a side is down.
use Rattle.std.specs.Prelude.{◌≡◌, ℕ, ◌+◌, ◌<◌, ◌==◌, Bool, true, false, ◌||◌, if◌then◌else◌, Some, List, [], ◌∷◌, ◌++◌, length, remove, slice_get}
use Rattle.amo_object.specs.declared.step.End.{End}
use Rattle.amo_object.specs.declared.step.End.TheVariants.{Sender, Receiver}
use Rattle.amo_object.specs.declared.status.Status.{Status}
use Rattle.amo_object.specs.declared.status.Status.TheVariants.{Yes, No, Open}
use Rattle.amo_object.specs.declared.step.Step.{Step}
use Rattle.amo_object.specs.declared.step.Step.TheVariants.{Put, Get, Ack, Crash, Recover, DownReply, Lose, LoseAck}

-- the messages, first one first; what is known of the last one put; which sides are down
pub record QueueState : Type 0 where
  pub messages : List (List ℕ)
  pub status : Status
  pub sender_down : Bool
  pub receiver_down : Bool

-- empty, with nothing put yet and both sides up
abbrev pub start : QueueState
start = record { messages = []; status = Yes; sender_down = false; receiver_down = false }

-- whether this side is down
abbrev pub is_down : QueueState → End → Bool
is_down s Sender = s.sender_down
is_down s Receiver = s.receiver_down

-- whether some side is down
abbrev pub is_any_down : QueueState → Bool
is_any_down s = s.sender_down || s.receiver_down

-- this side is down from now on, or up
abbrev pub set_down : QueueState → End → Bool → QueueState
set_down s Sender down = record s { sender_down = down }
set_down s Receiver down = record s { receiver_down = down }

-- the status that a reply reports: yes where the last message was got, no where it may not have been
abbrev pub status_of : Bool → Status
status_of true = Yes
status_of false = No

-- the status once the last message of the queue has left: an open one is settled, another stays
abbrev pub settled : Status → Status → Status
settled Open known = known
settled Yes known = Yes
settled No known = No

-- the message at this place has left, which settles the status if it was the last
abbrev pub without : QueueState → ℕ → Status → QueueState
without s place known = record s {
  messages = remove s.messages place;
  status = if place + 1 == length s.messages then settled s.status known else s.status;
}

-- the queue may take this step
abbrev pub Allows : QueueState → Step → Type 0
Allows s (Put m) = s.sender_down ≡ false
Allows s (Get m) = (s.receiver_down ≡ false) × (slice_get s.messages 0 ≡ Some m)
Allows s (Ack got) = (s.sender_down ≡ false) × (s.status ≡ status_of got)
Allows s (Crash side) = Unit {0}
Allows s (Recover side) = Unit {0}
Allows s (DownReply side) = is_down s side ≡ true
Allows s (Lose place) = (is_any_down s ≡ true) × (place < length s.messages)
Allows s LoseAck = is_any_down s ≡ true

-- the queue after a step that it allows
abbrev pub after : QueueState → Step → QueueState
after s (Put m) = record s { messages = s.messages ++ m ∷ []; status = Open }
after s (Get m) = without s 0 Yes
after s (Ack got) = s
after s (Crash side) = set_down s side true
after s (Recover side) = set_down s side false
after s (DownReply side) = s
after s (Lose place) = without s place No
after s LoseAck = record s { status = No }

-- the only steps that add to the queue
abbrev pub IsPut : Step → Type 0
IsPut (Put m) = Unit {0}
IsPut _ = ⊥
