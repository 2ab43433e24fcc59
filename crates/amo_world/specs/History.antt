-- Histories. A history is the list of its events, the newest first: `past` stands for all that was before.
use Rattle.std.specs.Prelude.{◌≡◌, ℕ, ◌==◌, Bool, true, false, ◌&&◌, Option, Some, IfSome, List, [], ◌∷◌, ◌++◌}
use Rattle.std.specs.List.{Contains}
use Rattle.std.specs.Option.{option_to_list, option_map}
use Rattle.amo_object.specs.declared.step.End.{End}
use Rattle.amo_object.specs.declared.step.End.TheVariants.{Sender, Receiver}
use Rattle.amo_object.specs.End.{other}
use Rattle.amo_core.specs.declared.act.Act.{Act}
use Rattle.amo_core.specs.declared.act.Act.TheVariants.{Deliver}
use Rattle.amo_world.specs.declared.emission.Emission.{Emission}
use Rattle.amo_world.specs.declared.event.Event.{Event}
use Rattle.amo_core.specs.declared.automaton.Automaton.{Automaton}
use Rattle.amo_world.specs.Stream.{Stream, Side, initial, after, reply_of, emission_of, word_of, emitted_by, words_of, acts}

-- a stream after an event, if the event is one of its own
abbrev pub after_if : Bool → Stream → Event → Stream
after_if true s e = after s e.side e.act
after_if false s e = s

-- the stream of a number after a history: each of its events by its row
abbrev pub stream_after : ℕ → List Event → Stream
stream_after number [] = initial number
stream_after number (e ∷ past) = after_if (number == e.stream) (stream_after number past) e

-- the stream of an event, before the event
abbrev pub stream_before : List Event → Event → Stream
stream_before past e = stream_after e.stream past

-- a fact holds of each event and what was before it
abbrev pub Along : (List Event → Event → Type 0) → List Event → Type 0
Along Holds [] = Unit {0}
Along Holds (e ∷ past) = Holds past e × Along Holds past

-- right: each reply is the row's, and each act is one of its side's
abbrev pub HasRightReply : List Event → Event → Type 0
HasRightReply past e = reply_of (stream_before past e) e.side e.act ≡ Some e.reply

abbrev pub IsRight : List Event → Type 0
IsRight events = Along HasRightReply events

-- honest: each packet delivered was emitted before, by the other side of the stream
abbrev pub WasEmitted : Stream → End → Act → Type 0
WasEmitted s side (Deliver packet word) = Contains (emitted_by s (other side)) packet
WasEmitted s side _ = Unit {0}

abbrev pub DeliversEmitted : List Event → Event → Type 0
DeliversEmitted past e = WasEmitted (stream_before past e) e.side e.act

abbrev pub IsHonest : List Event → Type 0
IsHonest events = Along DeliversEmitted events

-- fresh: a word that is used up was not used up before, by that side of the stream
abbrev pub IsNewWord : Stream → End → Act → Type 0
IsNewWord s side act = IfSome (word_of s side act) (λ word. ¬ (Contains (words_of s side) word))

abbrev pub UsesNewWord : List Event → Event → Type 0
UsesNewWord past e = IsNewWord (stream_before past e) e.side e.act

abbrev pub IsFresh : List Event → Type 0
IsFresh events = Along UsesNewWord events

-- what an event emitted
abbrev pub event_emission : List Event → Event → Option Emission
event_emission past e = option_map (λ packet. record { side = e.side; packet = packet }) (emission_of (stream_before past e) e.side e.act)

-- every packet emitted, over all streams, the oldest first
abbrev pub emissions : List Event → List Emission
emissions [] = []
emissions (e ∷ past) = emissions past ++ option_to_list (event_emission past e)

-- a history that goes on from another
abbrev pub Extends : List Event → List Event → Type 0
Extends later earlier = (newer : List Event) × (later ≡ newer ++ earlier)

-- an event before others, if it is one of those that are looked for
abbrev pub event_if : Bool → Event → List Event → List Event
event_if true e events = e ∷ events
event_if false e events = events

-- the events of a history that bear a pass's number
abbrev pub events_of : ℕ → List Event → List Event
events_of pass [] = []
events_of pass (e ∷ past) = event_if (pass == e.pass) e (events_of pass past)

-- both are the same side
abbrev pub is_same_side : End → End → Bool
is_same_side Sender Sender = true
is_same_side Receiver Receiver = true
is_same_side _ _ = false

-- the events of a history at a side of the stream of a number
abbrev pub events_at : ℕ → End → List Event → List Event
events_at number side [] = []
events_at number side (e ∷ past) = event_if ((number == e.stream) && is_same_side side e.side) e (events_at number side past)

-- a side after these events of its own, each by its row
abbrev pub side_after : Side Automaton → List Event → Side Automaton
side_after side [] = side
side_after side (e ∷ past) = acts (side_after side past) e.act
