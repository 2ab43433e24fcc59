-- A journal in pieces that is judged while they come. Lists of pieces have the newest first.
use Rattle.std.specs.Prelude.{◌≡◌, ◌≢◌, ◌⊎◌, ℕ, Option, None, Some, List, [], length}
use Rattle.amo_journal.specs.declared.version.Version.{Version}
use Rattle.amo_journal.specs.Version.{heading, Opens}
use Rattle.amo_pieces.specs.Text.{IsTextOf}
use Rattle.amo_audit.specs.declared.pieces_audit.PiecesAudit.{PiecesAudit}
use Rattle.amo_audit.specs.Parts.{HasCome}

-- the text of these pieces has come
abbrev pub HaveCome : PiecesAudit → List (List ℕ) → Type 0
HaveCome audit pieces = (text : List ℕ) × IsTextOf pieces text × HasCome audit.text text

-- how many bytes of a piece that begins so are left out behind a text of this version; none where it is of another one
abbrev pub LeavesOut : Option Version → List ℕ → Option ℕ → Type 0
LeavesOut None begun (Some count) = count ≡ 0
LeavesOut None begun None = ⊥
LeavesOut (Some version) begun (Some count) =
    ((begun ≡ []) × (count ≡ 0)) ⊎ ((behind : List ℕ) × (begun ≢ []) × Opens version behind begun × (count ≡ length (heading version)))
LeavesOut (Some version) begun None = (begun ≢ []) × ((another : Version) × (behind : List ℕ) × Opens another behind begun × (another ≢ version))
