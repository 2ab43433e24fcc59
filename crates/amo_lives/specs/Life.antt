-- The file of lives: a heading, and a line for each life. One value has one spelling.
use Rattle.std.specs.Prelude.{◌≡◌, ℕ, ◌+◌, ◌<◌, ◌%◌, ◌^◌, ◌==◌, ◌&&◌, Bool, true, false, Option, Some, None, IfSome, List, [], ◌∷◌, length, codes}
use Rattle.std.specs.Fmt.{decimal}
use Rattle.std.specs.Int.{to_be_bytes, w32}
use Rattle.hex.specs.Hex.{IsBytes}
use Rattle.amo_object.specs.declared.step.End.{End}
use Rattle.amo_text.specs.Hexadecimal.{hex}
use Rattle.amo_text.specs.Line.{line_of}
use Rattle.amo_text.specs.Side.{letter_of}
use Rattle.amo_lives.specs.declared.life.Life.{Life}
use Rattle.amo_lives.specs.Boot.{IsBootId}

-- a key of words: 16 bytes
abbrev pub IsKey : List ℕ → Type 0
IsKey key = (length key ≡ 16) × IsBytes key

-- the fields of the heading: what the file is, its version, the side of the journal's host, and the key
abbrev pub heading_fields : End → List ℕ → List (List ℕ)
heading_fields side key = codes "amo" ∷ codes "lives" ∷ codes "1" ∷ letter_of side ∷ hex key ∷ []

-- the heading, with its end
abbrev pub heading : End → List ℕ → List ℕ
heading side key = line_of (heading_fields side key)

-- a tag as 8 digits, the highest first
abbrev pub tag_field : ℕ → List ℕ
tag_field tag = hex (to_be_bytes w32 tag)

-- the id of the machine's start, or a word where it is not known
abbrev pub boot_field : Option (List ℕ) → List ℕ
boot_field None = codes "unknown"
boot_field (Some id) = id

-- whether the journal was put on its disk before packets left
abbrev pub sync_field : Bool → List ℕ
sync_field true = codes "sync"
sync_field false = codes "nosync"

-- the fields of a life
abbrev pub fields_of : Life → List (List ℕ)
fields_of life = tag_field life.tag ∷ decimal life.first_line ∷ boot_field life.boot ∷ sync_field life.sync ∷ []

-- the lives that there are
pub record InRange (life : Life) : Type 0 where
  pub tag : life.tag < 2 ^ 32
  pub first_line : life.first_line < 2 ^ 64
  pub boot : IfSome life.boot IsBootId

-- the tag of the life that goes on where the words of one with this tag are used up
abbrev pub next_tag : ℕ → ℕ
next_tag tag = (tag + 1) % 2 ^ 32

-- the next life goes on where the words of this one were used up: it begins where this one does, with the tag behind this one's
abbrev pub goes_on : Life → Life → Bool
goes_on life next = (next.first_line == life.first_line) && (next.tag == next_tag life.tag)

-- the line of a life, with its end
abbrev pub line_text : Life → List ℕ
line_text life = line_of (fields_of life)
