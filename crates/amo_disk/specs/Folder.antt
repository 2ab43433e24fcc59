-- The pieces that a folder has, the newest first, where it tells them.
use Rattle.std.specs.Prelude.{◌≡◌, ℕ, ◌⊎◌, Option, List, [], ◌∷◌, ◌++◌, take}
use Rattle.std.specs.Option.{option_map}

-- they stay as they were
abbrev pub Stays : Option (List (List ℕ)) → Option (List (List ℕ)) → Type 0
Stays old new = new ≡ old

-- the pieces, with these bytes at the end of the newest one
abbrev pub with_bytes : List ℕ → List (List ℕ) → List (List ℕ)
with_bytes bytes [] = []
with_bytes bytes (newest ∷ earlier) = (newest ++ bytes) ∷ earlier

-- the newest one grows by these bytes
abbrev pub Grows : Option (List (List ℕ)) → Option (List (List ℕ)) → List ℕ → Type 0
Grows old new bytes = new ≡ option_map (with_bytes bytes) old

-- there is a new one, which has these bytes
abbrev pub BeginsWith : Option (List (List ℕ)) → Option (List (List ℕ)) → List ℕ → Type 0
BeginsWith old new bytes = new ≡ option_map (λ pieces. bytes ∷ pieces) old

-- there is a new one, without bytes
abbrev pub Begins : Option (List (List ℕ)) → Option (List (List ℕ)) → Type 0
Begins old new = BeginsWith old new []

-- they stay as they were, or there is a new one, which has a beginning of these bytes
abbrev pub BeginsInPart : Option (List (List ℕ)) → Option (List (List ℕ)) → List ℕ → Type 0
BeginsInPart old new bytes = Stays old new ⊎ ((n : ℕ) × BeginsWith old new (take n bytes))
