-- What a disk keeps of the pieces of a folder. Lists of pieces have the newest first.
use Rattle.std.specs.Prelude.{◌≡◌, ◌≢◌, ℕ, ◌+◌, ◌<◌, ◌≤◌, Bool, IsTrue, ◌↔◌, Option, List, [], ◌∷◌, ◌++◌, length, drop, ⊤, false, true, IfSome}
use Rattle.std.specs.Option.{option_map}
use Rattle.std.specs.Io.KnownBytes.{Appends}
use Rattle.amo_journal.specs.declared.version.Version.{Version}
use Rattle.amo_journal.specs.Version.{Opens, heading}
use Rattle.amo_pieces.specs.Journal.{IsWhole}
use Rattle.amo_disk.specs.declared.newest.Newest.{Newest}

-- what a piece adds to the text of those before it: what is behind its heading. The first one comes as it is.
abbrev pub added : Version → List (List ℕ) → List ℕ → List ℕ
added version [] piece = piece
added version (p ∷ earlier) piece = drop (length (heading version)) piece

-- the text that pieces spell together, as of one file
abbrev pub spelt : Version → List (List ℕ) → List ℕ
spelt version [] = []
spelt version (piece ∷ earlier) = spelt version earlier ++ added version earlier piece

-- the text of the pieces, where they are told
abbrev pub spelt_known : Version → Option (List (List ℕ)) → Option (List ℕ)
spelt_known version pieces = option_map (λ (ps : List (List ℕ)). spelt version ps) pieces

-- each end of a line but one at its own end stands in front of its byte of this number
abbrev pub IsWithin : ℕ → List ℕ → Type 0
IsWithin limit piece = (front more : List ℕ) → piece ≡ front ++ 10 ∷ more → more ≢ [] → length front + 1 < limit

-- it was begun with the heading, and no line but the last is beyond the limit; the first piece was there before
abbrev pub IsBegun : Version → ℕ → List (List ℕ) → List ℕ → Type 0
IsBegun version limit [] piece = ⊤
IsBegun version limit (p ∷ earlier) piece = ((body : List ℕ) × (piece ≡ heading version ++ body)) × IsWithin limit piece

-- it was closed between two lines, and not before it had as many bytes as a piece is to have
pub record IsClosed (version : Version) (limit : ℕ) (earlier : List (List ℕ)) (piece : List ℕ) : Type 0 where
  pub begun : IsBegun version limit earlier piece
  pub whole : IsWhole piece
  pub long : limit ≤ length piece

-- each of the pieces was closed so
abbrev pub AreClosed : Version → ℕ → List (List ℕ) → Type 0
AreClosed version limit [] = ⊤
AreClosed version limit (piece ∷ earlier) = IsClosed version limit earlier piece × AreClosed version limit earlier

-- all pieces but the newest were closed
abbrev pub HaveClosed : Version → ℕ → List (List ℕ) → Type 0
HaveClosed version limit [] = ⊤
HaveClosed version limit (newest ∷ earlier) = AreClosed version limit earlier

-- each of the pieces is of this version
abbrev pub AreHeaded : Version → List (List ℕ) → Type 0
AreHeaded version [] = ⊤
AreHeaded version (piece ∷ earlier) = ((body : List ℕ) × Opens version body piece) × AreHeaded version earlier

-- this is known of a piece with this text
pub record IsNewest (known : Newest) (text : List ℕ) : Type 0 where
  pub length_is : known.length ≡ length text
  pub whole : IsTrue known.is_whole ↔ IsWhole text

-- of the pieces the newest is known so, and lines can be appended to it
abbrev pub IsReady : Version → ℕ → Newest → List (List ℕ) → Type 0
IsReady version limit known [] = ⊥
IsReady version limit known (newest ∷ earlier) = IsNewest known newest × IsBegun version limit earlier newest

-- What is kept of known pieces: all but the newest were closed. And where no piece was begun in part, lines can be appended to the newest.
pub record IsKept (version : Version) (limit : ℕ) (known : Newest) (is_broken : Bool) (pieces : List (List ℕ)) : Type 0 where
  pub closed : HaveClosed version limit pieces
  pub ready : is_broken ≡ false → IsReady version limit known pieces

-- it is not time for another piece
abbrev pub HasRoom : ℕ → Newest → Type 0
HasRoom limit known = IsTrue known.is_whole → known.length < limit

-- The newest of known pieces got these bytes. What is known of it is kept then; and where nothing more is to be written that is kept, too.
pub record Grown (version : Version) (limit : ℕ) (old new : Option (List (List ℕ))) (bytes : List ℕ) (next : Option Newest) : Type 0 where
  pub text : Appends (spelt_known version old) (spelt_known version new) bytes
  pub kept : IfSome next (λ known. IfSome new (IsKept version limit known false))
  pub broken : (other : Newest) → IfSome new (IsKept version limit other true)

-- there is one piece, of whole lines, with so many bytes
abbrev pub IsAlone : ℕ → List (List ℕ) → Type 0
IsAlone length_is pieces = (piece : List ℕ) × (pieces ≡ piece ∷ []) × (length piece ≡ length_is) × IsWhole piece

-- pieces that grow: their folder, the version of the journal, how long a piece is to be, and whether a new one is put on the disk
pub record RollState (F : Type 0) : Type 0 where
  pub folder : F
  pub version : Version
  pub limit : ℕ
  pub sync : Bool
