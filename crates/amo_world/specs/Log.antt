-- A log: what is kept of all events. Each packet that was emitted stands once, at its place, and the places in the order of the emissions.
use Rattle.std.specs.Prelude.{ℕ, Option, None, Some, List, [], ◌∷◌, slice_get}
use Rattle.amo_object.specs.declared.step.End.{End}
use Rattle.amo_world.specs.declared.emission.Emission.{Emission}
use Rattle.amo_world.specs.declared.emission.Emitted.{Emitted}
use Rattle.amo_world.specs.declared.emission.Emitted.TheVariants.{Nothing, Again, First}

-- what is stored of an act's emission: a packet that was not emitted before
abbrev pub first_of : End → Emitted → List Emission
first_of side Nothing = []
first_of side (Again place) = []
first_of side (First packet) = record { side = side; packet = packet } ∷ []

-- the place of an act's emission, where a packet that was not emitted before goes to the next place
abbrev pub place_of : ℕ → Emitted → List ℕ
place_of next Nothing = []
place_of next (Again place) = place ∷ []
place_of next (First packet) = next ∷ []

-- the emission at a place, if there is one
abbrev pub at_place : List Emission → Option ℕ → Option Emission
at_place stored None = None
at_place stored (Some place) = slice_get stored place
