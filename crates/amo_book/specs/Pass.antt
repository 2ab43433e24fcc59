-- A pass, what a call makes of it, and what is promised of what it has seen.
use Rattle.std.specs.Prelude.{◌≡◌, ℕ, ◌+◌, ◌%◌, ◌^◌, Option, None, Some, List, ◌∷◌, length}
use Rattle.atomic_table.specs.Seated.{TableId}
use Rattle.amo_object.specs.declared.step.End.{End}
use Rattle.amo_core.specs.declared.act.Act.{Act}
use Rattle.amo_core.specs.declared.reply.Reply.{Reply}
use Rattle.amo_core.specs.declared.automaton.Automaton.{Automaton}
use Rattle.amo_world.specs.declared.event.Event.{Event}
use Rattle.amo_world.specs.Stream.{automaton_of}
use Rattle.amo_world.specs.History.{stream_after, events_of, IsHonest, IsFresh, Extends}
use Rattle.amo_world.specs.Served.{IsServed}

-- a pass's book and number, and the history that it has seen
pub record PassState : Type 0 where
  pub book : TableId
  pub number : ℕ
  pub seen : List Event

-- the events that the pass itself made
abbrev pub mine : PassState → List Event
mine v = events_of v.number v.seen

-- the automaton of a stream side after a history
abbrev pub automaton_after : End → ℕ → List Event → Automaton
automaton_after side stream past = automaton_of (stream_after stream past) side

-- the event of a call: exactly its pass, side, stream, act and reply
abbrev pub event : ℕ → End → ℕ → Act → Reply → Event
event number side stream act reply = record { pass = number; side = side; stream = stream; act = act; reply = reply }

-- The pass has seen one event more of its own: it stands last, what the pass had seen stands before it, and what others made meanwhile
-- between the two.
pub record GrownBy (v w : PassState) (e : Event) : Type 0 where
  pub earlier : List Event
  pub seen : w.seen ≡ e ∷ earlier
  pub extends : Extends earlier v.seen
  pub mine_grew : mine w ≡ e ∷ mine v
  pub book : w.book ≡ v.book
  pub number : w.number ≡ v.number

-- what a call answered: the reply and the position of its event, or nothing where it made no event
abbrev pub Answer : Type 0
Answer = Option (Reply × ℕ)

-- a call that answers makes its event and no other; one that does not leaves the pass as it was
abbrev pub Grown : PassState → PassState → End → ℕ → Act → Answer → Type 0
Grown v w side stream act None = w ≡ v
Grown v w side stream act (Some (reply, position)) = GrownBy v w (event v.number side stream act reply)

-- the position is the event's place in the history, from 0 and modulo 2^64
abbrev pub HasPosition : PassState → ℕ → Type 0
HasPosition w position = (position + 1) % 2 ^ 64 ≡ length w.seen % 2 ^ 64

-- a call that answers gives its event's position
abbrev pub Answered : PassState → Answer → Type 0
Answered w None = Unit {0}
Answered w (Some (reply, position)) = HasPosition w position

-- where the history is honest and fresh, it serves each of its streams
abbrev pub Serves : List Event → Type 0
Serves history = IsHonest history → IsFresh history → (stream : ℕ) → IsServed stream history

-- it is the same pass, with the same events of its own
pub record IsSamePass (v w : PassState) : Type 0 where
  pub book : w.book ≡ v.book
  pub number : w.number ≡ v.number
  pub mine_stays : mine w ≡ mine v

-- there is a history that goes on from what each pass had seen, and from which what each has seen now goes on
abbrev pub Met : PassState → PassState → PassState → PassState → Type 0
Met one two one' two' = (history : List Event) × Extends history one.seen × Extends history two.seen × Extends one'.seen history × Extends two'.seen history
