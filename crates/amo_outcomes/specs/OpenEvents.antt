-- Of the events of a stream's sender those that tell of messages without an answer.
use Rattle.std.specs.Prelude.{ℕ, ◌-◌, ◌==◌, Bool, true, false, if◌then◌else◌, List, [], ◌∷◌, length, take}
use Rattle.std.specs.List.{filter}
use Rattle.amo_object.specs.declared.step.End.{End}
use Rattle.amo_object.specs.declared.step.End.TheVariants.{Sender, Receiver}
use Rattle.amo_core.specs.declared.sender.SenderMode.{SenderMode}
use Rattle.amo_core.specs.declared.sender.SenderMode.TheVariants as sending
use Rattle.amo_core.specs.Sender as sender
use Rattle.amo_world.specs.declared.event.Event.{Event}
use Rattle.amo_world.specs.Stream.{Stream}
use Rattle.amo_world.specs.History.{stream_after}
use Rattle.amo_outcomes.specs.Places.{is_put}

-- a put that was taken
abbrev pub is_taken : Event → Bool
is_taken e = is_put e.act e.reply

-- the newest events stand first; their puts, but for so many of the oldest
abbrev pub later_puts : ℕ → List Event → List Event
later_puts many events = take (length (filter is_taken events) - many) (filter is_taken events)

-- The puts, the start of the open handshake and its accept, by the sender's mode before an event and behind it: what begins a handshake is one more, and its
-- accept. Where it ends its puts are left out, which are the oldest, and so is how it went. A crash forgets all. Else a put that is taken is one more.
abbrev pub opened_by : SenderMode → SenderMode → Event → List Event → List Event
opened_by (sending.Quiet got) (sending.NeedId word load) e events = e ∷ events
opened_by (sending.NeedId word load) (sending.Send id sent) e events = e ∷ events
opened_by (sending.Send id load) (sending.Quiet got) e events = later_puts (length (sender.messages_in load)) events
opened_by _ sending.Down e events = []
opened_by _ _ e events = if is_taken e then e ∷ events else events

abbrev pub opened_at : End → Stream → Event → List Event → List Event
opened_at Sender s e events = opened_by s.sender.state.mode (sender.row s.sender.state e.act).state.mode e events
opened_at Receiver s e events = events

abbrev pub opened_if : Bool → Stream → Event → List Event → List Event
opened_if true s e events = opened_at e.side s e events
opened_if false s e events = events

-- of a history, the newest first
abbrev pub open_events : ℕ → List Event → List Event
open_events number [] = []
open_events number (e ∷ past) = opened_if (number == e.stream) (stream_after number past) e (open_events number past)
