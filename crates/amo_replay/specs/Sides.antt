-- Both sides of every stream on a book that one caller has to itself, and what an act adds to its history.
use Rattle.std.specs.Prelude.{◌≡◌, ℕ, ◌+◌, ◌-◌, List, [], ◌∷◌, length, Option, Some, slice_get}
use Rattle.atomic_table.specs.Seated.{TableId}
use Rattle.amo_object.specs.declared.step.End.{End}
use Rattle.amo_object.specs.declared.step.End.TheVariants.{Sender, Receiver}
use Rattle.amo_core.specs.declared.act.Act.{Act}
use Rattle.amo_core.specs.declared.act.Act.TheVariants as act
use Rattle.amo_core.specs.Automaton.{Writes}
use Rattle.amo_world.specs.declared.event.Event.{Event}
use Rattle.amo_world.specs.Stream.{IsStream, emission_of}
use Rattle.amo_world.specs.History.{Along, Extends, events_of, stream_before, IsRight}
use Rattle.amo_book.specs.Pass.{PassState}
use Rattle.amo_book.specs.Charge.{ChargeState, IsChargeOf}
use Rattle.amo_book.specs.Book.{BookState, first_pass}

-- where a side stands among the book's: the senders of streams 1 to 256, then their receivers
abbrev pub place_of : End → ℕ → ℕ
place_of Sender stream = stream - 1
place_of Receiver stream = 255 + stream

-- there are 512 sides, and each stands at its place
pub record AreSides (sides : List (End × ℕ)) : Type 0 where
  pub count : length sides ≡ 512
  pub each : (place : ℕ) (side : End) (stream : ℕ) → slice_get sides place ≡ Some (side, stream) → (place ≡ place_of side stream) × IsStream stream

-- there is a charge for each side, and each stands at its side's place
pub record AreCharges (id : TableId) (sides : List (End × ℕ)) (charges : List ChargeState) : Type 0 where
  pub count : length charges ≡ length sides
  pub each : (place : ℕ) (charge : ChargeState) → slice_get charges place ≡ Some charge → (charge.place ≡ place) × IsChargeOf id sides charge

-- the book has two passes, and all its passes and charges are here; the second pass made nothing
pub record Represents (book : BookState) (passes : List PassState) (charges : List ChargeState) : Type 0 where
  pub sides : AreSides book.sides
  pub two : book.passes ≡ 2
  pub pass : PassState
  pub number : pass.number ≡ 0
  pub belongs : pass.book ≡ book.id
  pub passes_are : passes ≡ pass ∷ first_pass book.id 1 ∷ []
  pub charges_are : AreCharges book.id book.sides charges

-- what the first pass has seen
abbrev pub seen_of : List PassState → List Event
seen_of [] = []
seen_of (pass ∷ passes) = pass.seen

-- each event is one of pass 0
abbrev pub IsOwn : List Event → Type 0
IsOwn history = Along (λ past e. e.pass ≡ 0) history

-- an act that a side's host may make, but for deliveries
abbrev pub IsHostActOf : End → Act → Type 0
IsHostActOf Sender (act.Start word) = Unit {0}
IsHostActOf Sender (act.Batch word) = Unit {0}
IsHostActOf side act.Resend = Unit {0}
IsHostActOf side act.Crash = Unit {0}
IsHostActOf side act.Recover = Unit {0}
IsHostActOf side _ = ⊥

-- an act that a side has, but for deliveries
abbrev pub IsActOf : End → Act → Type 0
IsActOf Sender (act.Put m) = Unit {0}
IsActOf Sender act.Ack = Unit {0}
IsActOf Receiver act.Get = Unit {0}
IsActOf side act = IsHostActOf side act

-- The event is the newest of what is seen now, and one more of pass 0. What was seen stands before it, and all replies are right.
pub record Adds (old new : List Event) (e : Event) : Type 0 where
  pub earlier : List Event
  pub seen : new ≡ e ∷ earlier
  pub extends : Extends earlier old
  pub own_grew : events_of 0 new ≡ e ∷ events_of 0 old
  pub right : IsRight new

-- and what it emitted after all earlier events stands at the front of the buffer
abbrev pub AddsWriting : List Event → List Event → Event → List ℕ → List ℕ → Option ℕ → Type 0
AddsWriting old new e buffer buffer' length =
    (adds : Adds old new e) × Writes (emission_of (stream_before adds.earlier e) e.side e.act) buffer buffer' length
