-- Lines of fields.
use Rattle.std.specs.Prelude.{ℕ, ◌≢◌, List, [], ◌∷◌, ◌++◌}
use Rattle.std.specs.List.{AllByRecursion, join_with_byte}

-- the byte does not occur
abbrev pub Lacks : ℕ → List ℕ → Type 0
Lacks byte xs = AllByRecursion (λ x. x ≢ byte) xs

-- no space and no line feed
abbrev pub IsField : List ℕ → Type 0
IsField field = Lacks 32 field × Lacks 10 field

-- fields, one at least
abbrev pub IsLine : List (List ℕ) → Type 0
IsLine fields = (fields ≢ []) × AllByRecursion IsField fields

-- the fields with single spaces between them
abbrev pub text_of : List (List ℕ) → List ℕ
text_of fields = join_with_byte 32 fields

-- that, and a line feed
abbrev pub line_of : List (List ℕ) → List ℕ
line_of fields = text_of fields ++ 10 ∷ []
