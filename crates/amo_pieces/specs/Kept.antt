-- What is kept of pieces.
use Rattle.std.specs.Prelude.{◌≡◌, ◌↔◌, ◌⊎◌, ℕ, List, [], ◌∷◌, ◌++◌, IsTrue}
use Rattle.amo_pieces.specs.declared.start.Start.{Start}
use Rattle.amo_pieces.specs.declared.pieces.Pieces.{Pieces}
use Rattle.amo_pieces.specs.declared.place.Place.{Place}
use Rattle.amo_pieces.specs.Journal.{IsWhole}
use Rattle.amo_pieces.specs.Text.{Joins, IsTextOf}
use Rattle.amo_pieces.specs.Places.{IsAt, ends_in}

-- where the pieces start in their text
abbrev pub AreStarts : List Start → List (List ℕ) → Type 0
AreStarts starts [] = starts ≡ []
AreStarts starts (piece ∷ earlier) = (front : List ℕ) × (text : List ℕ) × (before : List Start) × (start : Start)
    × IsTextOf earlier front × Joins front piece text start.left_out × (IsTrue start.goes_on ↔ IsWhole front) × (start.ends ≡ ends_in front)
    × AreStarts before earlier × (starts ≡ before ++ start ∷ [])

-- their text is kept, and where they start
pub record Keeps (kept : Pieces) (pieces : List (List ℕ)) : Type 0 where
  pub text : IsTextOf pieces kept.text.items
  pub starts : AreStarts kept.starts.items pieces

-- what the first of these starts tell of the line is so, since it begins behind none of the others
pub record TellsOf (line : ℕ) (starts first : List Start) : Type 0 where
  pub found : (place : Place) → ((pieces : List (List ℕ)) → AreStarts first pieces → IsAt pieces line place) → (pieces : List (List ℕ)) → AreStarts starts pieces → IsAt pieces line place
  pub none : ((pieces : List (List ℕ)) → AreStarts first pieces → (line ≡ 0) ⊎ (pieces ≡ [])) → (pieces : List (List ℕ)) → AreStarts starts pieces → (line ≡ 0) ⊎ (pieces ≡ [])
