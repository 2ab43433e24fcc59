-- What a pass tells of its own events.
use Rattle.std.specs.Prelude.{◌≡◌, ℕ, ◌%◌, ◌^◌, ◌==◌, if◌then◌else◌, Option, Some, None, List, [], ◌∷◌, ◌++◌, length}
use Rattle.amo_object.specs.declared.step.End.{End}
use Rattle.amo_core.specs.declared.act.Act.{Act}
use Rattle.amo_world.specs.declared.event.Event.{Event}
use Rattle.amo_book.specs.Pass.{PassState, Answer, event}

-- the position of the event that comes next in a history
abbrev pub position : List Event → ℕ
position past = length past % 2 ^ 64

-- the events of a history that bear a pass's number, in the order of time, each with its position
abbrev pub placed : ℕ → List Event → List (ℕ × Event)
placed pass [] = []
placed pass (e ∷ past) = placed pass past ++ (if pass == e.pass then (position past, e) ∷ [] else [])

-- the pass's own events
abbrev pub told : PassState → List (ℕ × Event)
told v = placed v.number v.seen

-- it is still that pass of that book, and its own events have grown by exactly these, in order, each with its position
pub record Tells (v w : PassState) (made : List (ℕ × Event)) : Type 0 where
  pub book : w.book ≡ v.book
  pub number : w.number ≡ v.number
  pub grew : told w ≡ told v ++ made

-- the event of a call that made one
abbrev pub listed : Option (ℕ × Event) → List (ℕ × Event)
listed None = []
listed (Some one) = one ∷ []

-- the event of a call that answered this
abbrev pub made_by : ℕ → End → ℕ → Act → Answer → List (ℕ × Event)
made_by pass side stream act None = []
made_by pass side stream act (Some (reply, at)) = (at, event pass side stream act reply) ∷ []
