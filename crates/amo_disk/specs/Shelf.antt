-- Pieces in memory.
use Rattle.std.specs.Prelude.{ℕ, List, [], ◌∷◌, ◌++◌}
use Rattle.std.specs.Global.{Vec}

-- the texts of these pieces, which are in the order of time; the newest comes first
abbrev pub texts : List (Vec ℕ) → List (List ℕ)
texts [] = []
texts (piece ∷ pieces) = texts pieces ++ piece.items ∷ []
