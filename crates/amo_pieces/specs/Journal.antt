-- A journal in pieces. Lists of pieces have the newest first.
use Rattle.std.specs.Prelude.{◌≡◌, ◌⊎◌, ℕ, List, [], ◌∷◌, ◌++◌}
use Rattle.amo_world.specs.declared.event.Event.{Event}
use Rattle.amo_journal.specs.declared.version.Version.{Version}
use Rattle.amo_journal.specs.Version.{Opens}
use Rattle.amo_journal.specs.Journal.{AreEvents}

-- each line of the text has its end
abbrev pub IsWhole : List ℕ → Type 0
IsWhole text = (text ≡ []) ⊎ ((front : List ℕ) × (text ≡ front ++ 10 ∷ []))

-- a piece of a journal of this version, with this behind its heading; one without bytes has no heading
abbrev pub IsPiece : Version → List ℕ → List ℕ → Type 0
IsPiece version body piece = Opens version body piece ⊎ ((piece ≡ []) × (body ≡ []))

-- pieces of a journal of this version, with this behind their headings; each goes on behind whole lines
abbrev pub ArePieces : Version → List ℕ → List (List ℕ) → Type 0
ArePieces version body [] = body ≡ []
ArePieces version body (piece ∷ earlier) =
    (front : List ℕ) × (behind : List ℕ) × ArePieces version front earlier × IsWhole front × IsPiece version behind piece × (body ≡ front ++ behind)

-- the pieces are the journal of these events, in the order of time
abbrev pub AreJournal : List Event → List (List ℕ) → Type 0
AreJournal events pieces = (version : Version) × (body : List ℕ) × ArePieces version body pieces × AreEvents version events body
