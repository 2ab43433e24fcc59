-- Where a line of the text stands: in which piece, and there in which line.
use Rattle.std.specs.Prelude.{◌≡◌, ◌⊎◌, ℕ, ◌+◌, ◌-◌, ◌<◌, List, [], ◌∷◌, length, nat_eq}
use Rattle.std.specs.List.{count_by}
use Rattle.amo_pieces.specs.declared.place.Place.{Place}
use Rattle.amo_pieces.specs.Journal.{IsWhole}
use Rattle.amo_pieces.specs.Text.{Joins, IsTextOf}

-- how many lines end in the text
abbrev pub ends_in : List ℕ → ℕ
ends_in text = count_by (nat_eq 10) text

-- behind this text a piece goes on, and the line of this number, counted from 1, does not begin before it
abbrev pub BeginsBehind : List ℕ → ℕ → Type 0
BeginsBehind front line = IsWhole front × (ends_in front < line)

-- this line of the text begins in that line of that piece: it is the last piece behind whose front it begins. Lines count from 1, pieces from 0.
abbrev pub IsAt : List (List ℕ) → ℕ → Place → Type 0
IsAt [] line place = ⊥
IsAt (piece ∷ earlier) line place = (front : List ℕ) × (text : List ℕ) × (left_out : ℕ) × IsTextOf earlier front × Joins front piece text left_out
    × ((BeginsBehind front line × (place.piece ≡ length earlier) × (place.line ≡ line - ends_in front + left_out))
    ⊎ ((¬ (BeginsBehind front line)) × IsAt earlier line place))
