-- An index of a book's sides.
use Rattle.std.specs.Prelude.{◌≡◌, ℕ, ◌↔◌, List, Option, Some, None, slice_get}
use Rattle.amo_object.specs.declared.step.End.{End}
use Rattle.amo_object.specs.declared.step.End.TheVariants.{Sender, Receiver}
use Rattle.amo_world.specs.Stream.{IsStream}
use Rattle.amo_book.specs.declared.index.Index.{Index}

-- what is within, if both are there
abbrev pub flat : Option (Option ℕ) → Option ℕ
flat None = None
flat (Some x) = x

-- the place that is kept for a side
abbrev pub place_of : Index → End → ℕ → Option ℕ
place_of index Sender stream = flat (slice_get index.senders stream)
place_of index Receiver stream = flat (slice_get index.receivers stream)

-- each side has its place, and no other has one
abbrev pub IsIndex : List (End × ℕ) → Index → Type 0
IsIndex sides index = (side : End) (stream place : ℕ) → (place_of index side stream ≡ Some place) ↔ (slice_get sides place ≡ Some (side, stream))

-- one side more, which was not there, at this place; each other stays
pub record Adds (old new : Index) (side : End) (stream place : ℕ) : Type 0 where
  pub lawful : IsStream stream
  pub fresh : place_of old side stream ≡ None
  pub here : place_of new side stream ≡ Some place
  pub others : (s : End) (n : ℕ) → (s ≡ side → n ≡ stream → ⊥) → place_of new s n ≡ place_of old s n
