-- Whose the puts of a stream are.
use Rattle.std.specs.Prelude.{◌≡◌, ℕ, ◌+◌, ◌-◌, ◌==◌, ◌&&◌, not, nat_lt, Bool, true, false, if◌then◌else◌, Option, Some, None, List, [], ◌∷◌, ◌++◌, replicate, length, slice_get}
use Rattle.std.specs.List.{flat_map}
use Rattle.amo_archive.specs.declared.lane.Lane.{Lane}
use Rattle.amo_archive.specs.declared.lane.Owner.{Owner}
use Rattle.amo_archive.specs.declared.lane.Section.{Section}

-- the owners of the puts of a section, and those of all puts of a stream, in order
abbrev pub section_owners : Section → List Owner
section_owners section = replicate section.count section.owner

abbrev pub owners_in : Lane → List Owner
owners_in lane = flat_map section_owners lane.sections.items

-- whether a put of this owner is one of a life
abbrev pub is_life : ℕ → Option ℕ → Bool
is_life life None = false
is_life life (Some other) = life == other

abbrev pub owns : ℕ → Owner → Bool
owns life owner = is_life life owner.life

-- the same put, behind so many others
abbrev pub behind_puts : ℕ → Option (ℕ × Bool) → Option (ℕ × Bool)
behind_puts count None = None
behind_puts count (Some (put, doubtful)) = Some (put + count, doubtful)

-- which put is the message of this number, counted from 1, of a life, and whether it is doubtful
abbrev pub message_of : ℕ → ℕ → List Owner → Option (ℕ × Bool)
message_of life number [] = None
message_of life number (owner ∷ owners) =
    if owns life owner then (if number == 1 then Some (0, owner.is_doubtful) else behind_puts 1 (message_of life (number - 1) owners)) else behind_puts 1 (message_of life number owners)

-- whether the message of this number of a life, counted from a section on, stands in it; and else its number counted from behind
abbrev pub stands_in : ℕ → ℕ → Section → Bool
stands_in life number section = owns life section.owner && (nat_lt 0 number && not (nat_lt section.count number))

abbrev pub left_behind : ℕ → ℕ → Section → ℕ
left_behind life number section = if owns life section.owner then number - section.count else number

-- so many streams, on which nothing was put
pub record AreEmpty (many : ℕ) (lanes : List Lane) : Type 0 where
  pub count : length lanes ≡ many
  pub each : (place : ℕ) (lane : Lane) → slice_get lanes place ≡ Some lane → owners_in lane ≡ []
