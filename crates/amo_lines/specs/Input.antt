-- What a reader brought of a client's lines, and was not taken.
use Rattle.std.specs.Prelude.{◌≡◌, ℕ, ◌<◌, Bool, true, false, not, ◌&&◌, ◌||◌, ◌==◌, Option, Some, None, List, [], ◌∷◌, ◌++◌, length}
use Rattle.amo_text.specs.Line.{Lacks}
use Rattle.amo_lines.specs.declared.lines.Spelling.{Spelling}
use Rattle.amo_lines.specs.declared.input.Line.{Line}
use Rattle.amo_lines.specs.Line.{NamesBy, ReadsAs, id_by, read_of}

-- What came and was not taken: these bytes; whether a line in front of them was too long, and is gone. How many lines were taken, and whether more may come.
pub record InputState : Type 0 where
  pub rest : List ℕ
  pub skips : Bool
  pub taken : ℕ
  pub is_open : Bool

-- what is gone in front: nothing, or what is too long for a line and has no end
abbrev pub IsGone : Bool → List ℕ → Type 0
IsGone false front = front ≡ []
IsGone true front = (4096 < length front) × Lacks 10 front

-- the text that came and was not taken
abbrev pub IsPending : InputState → List ℕ → Type 0
IsPending i text = (front : List ℕ) × IsGone i.skips front × (text ≡ front ++ i.rest)

-- what was taken of it: the next line, or nothing, as there was none with an end
abbrev pub Takes : Spelling → InputState → InputState → Option Line → Type 0
Takes spelling i j None = (text : List ℕ) → IsPending i text → Lacks 10 text × IsPending j text
Takes spelling i j (Some line) = (text : List ℕ) → IsPending i text → (front more : List ℕ) × (text ≡ front ++ 10 ∷ more) × Lacks 10 front × ReadsAs spelling front (read_of line) × IsPending j more

-- the line that was taken has its own id: that of its text, and none where what is gone in front made it too long
pub record IsNamed (spelling : Spelling) (i : InputState) (line : Line) : Type 0 where
  pub front : List ℕ
  pub rest : List ℕ
  pub stands : i.rest ≡ front ++ 10 ∷ rest
  pub lacks : Lacks 10 front
  pub own : (i.skips ≡ false) → NamesBy spelling.json front (read_of line) (id_by line)
  pub none : (i.skips ≡ true) → id_by line ≡ None

-- what a reader brought stands behind what came before, and nothing else does
abbrev pub Fills : InputState → InputState → List ℕ → Type 0
Fills i j bytes = (text : List ℕ) → IsPending i text → IsPending j (text ++ bytes)

-- whether something came and was not taken, and no more may come
abbrev pub is_torn : InputState → Bool
is_torn i = not i.is_open && (i.skips || not (length i.rest == 0))

-- the same where it is asked only as long as more may come
pub record Waits (i j : InputState) (bytes : List ℕ) : Type 0 where
  pub closed : i.is_open ≡ false → (bytes ≡ []) × (j.is_open ≡ false)
  pub text : Fills i j bytes
