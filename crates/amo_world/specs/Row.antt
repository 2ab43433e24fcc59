-- What stands in rows, and under keys.
use Rattle.std.specs.Prelude.{◌≡◌, ℕ, ◌%◌, ◌<◌, ◌==◌, Bool, false, cond, Option, None, Some, List, [], ◌∷◌, length, slice_get}
use Rattle.std.specs.BTreeMap.{is_at}
use Rattle.amo_world.specs.declared.row.Found.{Found}
use Rattle.amo_world.specs.declared.row.Row.{Row}
use Rattle.amo_world.specs.declared.key.Key.{Key}
use Rattle.amo_world.specs.Key.{order}

-- the place of the first of these that has the key
abbrev pub first_place : List Found → Key → Option ℕ
first_place [] key = None
first_place (f ∷ fs) key = cond (is_at (order f.key) key) (Some f.place) (first_place fs key)

-- the row of an identifier
abbrev pub row_of : List Row → ℕ → Option Row
row_of rows identifier = slice_get rows (identifier % length rows)

-- what stands in a row
abbrev pub found_in : Option Row → List Found
found_in None = []
found_in (Some row) = row.found.items

-- there was no room in the row for a key of it
abbrev pub has_spilled : Option Row → Bool
has_spilled None = false
has_spilled (Some row) = row.has_spilled

-- the first of two places
abbrev pub either_place : Option ℕ → Option ℕ → Option ℕ
either_place (Some place) other = Some place
either_place None other = other

-- the place under a key: that of its row, or of what has spilled
abbrev pub place_in : List Row → (Key → Option ℕ) → Key → Option ℕ
place_in rows spilled key = either_place (first_place (found_in (row_of rows key.identifier)) key) (spilled key)

-- of what stands in a row, what goes to this one where there are so many
abbrev pub shared : ℕ → ℕ → List Found → List Found
shared number rows [] = []
shared number rows (f ∷ fs) = cond (f.key.identifier % rows == number) (f ∷ shared number rows fs) (shared number rows fs)

abbrev pub IsShare : Row → ℕ → ℕ → Row → Type 0
IsShare row number rows share = (share.found.items ≡ shared number rows row.found.items) × (share.has_spilled ≡ row.has_spilled)

-- in these rows, of which there are some, each key has the same place, and its row has spilled if it had
pub record IsSpread (rows spread : List Row) : Type 0 where
  pub some : 0 < length spread
  pub places : (key : Key) → first_place (found_in (row_of spread key.identifier)) key ≡ first_place (found_in (row_of rows key.identifier)) key
  pub spilled : (key : Key) → has_spilled (row_of spread key.identifier) ≡ has_spilled (row_of rows key.identifier)
