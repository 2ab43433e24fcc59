-- The text of a journal in pieces, as of one file: its lines, with its heading once.
use Rattle.std.specs.Prelude.{◌≡◌, ◌≢◌, ℕ, List, [], ◌∷◌, ◌++◌, take}
use Rattle.amo_journal.specs.declared.version.Version.{Version}
use Rattle.amo_journal.specs.Version.{lines_before, Opens}
use Rattle.amo_pieces.specs.Journal.{IsWhole}

-- What becomes of a text by one piece more, and how many lines of the piece are left out.
pub data Joins (front piece text : List ℕ) (left_out : ℕ) : Type 0 where
  -- the first bytes come as they are
  begins : front ≡ [] → text ≡ piece → left_out ≡ 0 → Joins front piece text left_out
  -- no bytes change nothing
  adds_nothing : piece ≡ [] → text ≡ front → left_out ≡ 0 → Joins front piece text left_out
  -- behind whole lines comes what is behind the heading
  goes_on : (version : Version) (body behind : List ℕ) → front ≢ [] → IsWhole front → Opens version body front → Opens version behind piece → text ≡ front ++ behind → left_out ≡ lines_before version
      → Joins front piece text left_out
  -- of a piece of another version comes its first byte alone: no line is so short
  of_another : (version another : Version) (body behind : List ℕ) → front ≢ [] → IsWhole front → Opens version body front → Opens another behind piece → another ≢ version → piece ≢ [] → text ≡ front ++ take 1 piece
      → left_out ≡ 0 → Joins front piece text left_out
  -- behind a line without its end comes nothing
  torn : ¬ (IsWhole front) → text ≡ front → left_out ≡ 0 → Joins front piece text left_out

-- the text of pieces, of which each joins those before it
abbrev pub IsTextOf : List (List ℕ) → List ℕ → Type 0
IsTextOf [] text = text ≡ []
IsTextOf (piece ∷ earlier) text = (front : List ℕ) × (left_out : ℕ) × IsTextOf earlier front × Joins front piece text left_out
