-- The names of the files that pieces are in.
use Rattle.std.specs.Prelude.{◌≢◌, ℕ, ◌-◌, List, ◌∷◌, ◌++◌, length, replicate}
use Rattle.std.specs.Fmt.{decimal}

-- a number in six digits, or in more where it has more
abbrev pub padded : ℕ → List ℕ
padded number = replicate (6 - length (decimal number)) 48 ++ decimal number

-- the name of a journal, a dot, and the number of the piece
abbrev pub piece_name : List ℕ → ℕ → List ℕ
piece_name name number = name ++ 46 ∷ padded number

-- it does not begin with a zero
abbrev pub LacksZero : List ℕ → Type 0
LacksZero digits = (more : List ℕ) → digits ≢ 48 ∷ more
