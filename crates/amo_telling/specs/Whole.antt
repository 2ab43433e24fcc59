-- The whole lines of a file.
use Rattle.std.specs.Prelude.{◌≡◌, ◌⊎◌, ℕ, List, [], ◌∷◌, ◌++◌}
use Rattle.amo_text.specs.Line.{Lacks}

-- these are the lines of a file that have an end: a beginning of it, which is empty or ends a line, and no line ends behind it
abbrev pub AreWhole : List ℕ → List ℕ → Type 0
AreWhole lines bytes = (torn : List ℕ) × (bytes ≡ lines ++ torn) × Lacks 10 torn × ((lines ≡ []) ⊎ ((front : List ℕ) × (lines ≡ front ++ 10 ∷ [])))
