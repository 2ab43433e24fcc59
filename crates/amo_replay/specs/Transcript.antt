-- What a replay writes: a line for each event, with its number, the right reply, and the packet emitted, if any.
use Rattle.std.specs.Prelude.{◌≡◌, ℕ, ◌+◌, nat_eq, Bool, true, if◌then◌else◌, not, Option, None, Some, unwrap_or, Result, Ok, Err, List, [], ◌∷◌, ◌++◌, length, take, codes, slice_get}
use Rattle.std.specs.Fmt.{decimal}
use Rattle.std.specs.Io.KnownBytes.{Appends}
use Rattle.std.specs.List.{flat_map, list_any}
use Rattle.std.specs.Option.{option_map}
use Rattle.amo_object.specs.declared.step.End.{End}
use Rattle.amo_object.specs.declared.step.End.TheVariants.{Sender, Receiver}
use Rattle.amo_object.specs.End.{other}
use Rattle.amo_packet.specs.Grammar.{spelling}
use Rattle.amo_core.specs.declared.act.Act.{Act}
use Rattle.amo_core.specs.declared.act.Act.TheVariants as act
use Rattle.amo_core.specs.declared.reply.Reply.{Reply}
use Rattle.amo_core.specs.declared.reply.Reply.TheVariants as reply
use Rattle.amo_world.specs.declared.emission.Emission.{Emission}
use Rattle.amo_world.specs.declared.event.Event.{Event}
use Rattle.amo_world.specs.Stream.{reply_of, word_of, words_of}
use Rattle.amo_world.specs.History.{stream_after, stream_before, emissions, event_emission, IsRight, IsHonest, IsFresh}
use Rattle.amo_world.specs.Served.{IsServed}
use Rattle.amo_text.specs.Hexadecimal.{hex}
use Rattle.amo_text.specs.Reply.{reply_text}
use Rattle.amo_schedule.specs.Schedule.{SpellsSchedule, IsMalformedAt}
use Rattle.amo_schedule.specs.declared.line.ScheduleLine.{ScheduleLine}
use Rattle.amo_schedule.specs.declared.line.ScheduleLine.TheVariants.{Put, Get, Ack, Start, Batch, Resend, Deliver, Crash, Recover}
use Rattle.amo_replay.specs.declared.endings.Ending.{Ending}
use Rattle.amo_replay.specs.declared.endings.Ending.TheVariants.{Done, Malformed, Unsent, Repeat}

-- an act at a side of a stream, under pass 0, with a reply
abbrev pub event_at : End → ℕ → Act → Reply → Event
event_at side stream a answer = record { pass = 0; side = side; stream = stream; act = a; reply = answer }

-- a packet emitted is delivered to the other side of its stream
abbrev pub delivery : ℕ → Emission → Event
delivery word e = event_at (other e.side) e.packet.stream (act.Deliver e.packet word) reply.Done

-- the event of a line after a history, whatever its reply; none where the packet that it delivers was not emitted
abbrev pub event_of : List Event → ScheduleLine → Option Event
event_of past (Put stream m) = Some (event_at Sender stream (act.Put m) reply.Done)
event_of past (Get stream) = Some (event_at Receiver stream act.Get reply.Done)
event_of past (Ack stream) = Some (event_at Sender stream act.Ack reply.Done)
event_of past (Start stream word) = Some (event_at Sender stream (act.Start word) reply.Done)
event_of past (Batch stream word) = Some (event_at Sender stream (act.Batch word) reply.Done)
event_of past (Resend side stream) = Some (event_at side stream act.Resend reply.Done)
event_of past (Deliver number word) = option_map (delivery word) (slice_get (emissions past) number)
event_of past (Crash side stream) = Some (event_at side stream act.Crash reply.Done)
event_of past (Recover side stream) = Some (event_at side stream act.Recover reply.Done)

-- the reply that is right, to an act at a side of a stream after a history
abbrev pub right_reply : List Event → End → ℕ → Act → Reply
right_reply past side stream a = unwrap_or (reply_of (stream_after stream past) side a) reply.Done

-- the event with the reply that is right
abbrev pub replied : List Event → Event → Event
replied past e = record e { reply = right_reply past e.side e.stream e.act }

-- the word that an event uses up, if any, was not used up before by its side
abbrev pub is_new : List ℕ → Option ℕ → Bool
is_new used None = true
is_new used (Some word) = not (list_any (nat_eq word) used)

abbrev pub uses_new_word : List Event → Event → Bool
uses_new_word past e = is_new (words_of (stream_before past e) e.side) (word_of (stream_before past e) e.side e.act)

-- what applied of a line after a history: its event, or the ending, at the line behind those of the events before
abbrev pub checked : List Event → Option Event → Result Event Ending
checked past None = Err (Unsent (length past + 1))
checked past (Some e) = if uses_new_word past e then Ok (replied past e) else Err (Repeat (length past + 1))

abbrev pub applied : List Event → ScheduleLine → Result Event Ending
applied past line = checked past (event_of past line)

-- one thing of an event, another of an ending
abbrev pub either_way : {X : Type 0} → Result Event Ending → (Event → X) → (Ending → X) → X
either_way (Ok e) f g = f e
either_way (Err ending) f g = g ending

-- the packet emitted, with its number over all streams
abbrev pub emission_text : ℕ → Option (List ℕ) → List ℕ
emission_text number None = []
emission_text number (Some bytes) = codes " -> " ++ (decimal number ++ (32 ∷ hex bytes))

-- the line of the event of a number
abbrev pub event_text : ℕ → Reply → ℕ → Option (List ℕ) → List ℕ
event_text number answer emission bytes = decimal number ++ (32 ∷ (reply_text answer ++ (emission_text emission bytes ++ 10 ∷ [])))

-- what is written of an event after a history
abbrev pub line_text : List Event → Event → List ℕ
line_text past e = event_text (length past) e.reply (length (emissions past)) (option_map (λ x. spelling x.packet) (event_emission past e))

-- what is written of lines after a history, line by line, up to the first that cannot apply
abbrev pub transcript_from : List Event → List ScheduleLine → List (List ℕ)
transcript_from past [] = []
transcript_from past (line ∷ lines) = either_way (applied past line) (λ e. line_text past e ∷ transcript_from (e ∷ past) lines) (λ ending. [])

abbrev pub transcript : List ScheduleLine → List (List ℕ)
transcript lines = transcript_from [] lines

-- how lines end
abbrev pub ending_from : List Event → List ScheduleLine → Ending
ending_from past [] = Done
ending_from past (line ∷ lines) = either_way (applied past line) (λ e. ending_from (e ∷ past) lines) (λ ending. ending)

abbrev pub ending_of : List ScheduleLine → Ending
ending_of lines = ending_from [] lines

-- the history that lines leave
abbrev pub history_from : List Event → List ScheduleLine → List Event
history_from past [] = past
history_from past (line ∷ lines) = either_way (applied past line) (λ e. history_from (e ∷ past) lines) (λ ending. past)

abbrev pub history_of : List ScheduleLine → List Event
history_of lines = history_from [] lines

-- whole lines as one text
abbrev pub flatten : List (List ℕ) → List ℕ
flatten texts = flat_map (λ text. text) texts

-- the lines that the bytes spell, their transcript and their ending; and of the history that they leave, that it is right, honest and
-- fresh, and that each stream is served by it
pub record IsReplayed (bytes : List ℕ) (texts : List (List ℕ)) (ending : Ending) : Type 0 where
  pub lines : List ScheduleLine
  pub spelt : SpellsSchedule bytes lines
  pub written : texts ≡ transcript lines
  pub ends : ending ≡ ending_of lines
  pub right : IsRight (history_of lines)
  pub honest : IsHonest (history_of lines)
  pub fresh : IsFresh (history_of lines)
  pub served : (number : ℕ) → IsServed number (history_of lines)

-- the transcript of these bytes, and how it ends
abbrev pub IsTranscript : List ℕ → List (List ℕ) → Ending → Type 0
IsTranscript bytes texts (Malformed number) = IsMalformedAt bytes number × (texts ≡ [])
IsTranscript bytes texts ending = IsReplayed bytes texts ending

-- whole lines of the transcript of these lines were appended
abbrev pub AppendsWhole : List ScheduleLine → Option (List ℕ) → Option (List ℕ) → Type 0
AppendsWhole lines old new = (k : ℕ) × Appends old new (flatten (take k (transcript lines)))

-- whole lines of the transcript of these bytes were appended, if they spell a schedule
abbrev pub AppendsLines : List ℕ → Option (List ℕ) → Option (List ℕ) → Type 0
AppendsLines bytes old new = (lines : List ScheduleLine) → SpellsSchedule bytes lines → AppendsWhole lines old new
