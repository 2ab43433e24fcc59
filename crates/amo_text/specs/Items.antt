-- Files of lines: items of any kind, each of which is spelt by the fields of one line.
use Rattle.std.specs.Prelude.{◌≡◌, ◌≢◌, ℕ, ◌+◌, Option, Some, None, List, [], ◌++◌, length}
use Rattle.std.specs.List.{flat_map, AllByRecursion}
use Rattle.amo_text.specs.Line.{text_of, line_of}
use Rattle.amo_text.specs.declared.items.LinesFault.{LinesFault}
use Rattle.amo_text.specs.declared.items.LinesFault.TheVariants.{NoMemory, Malformed}

-- given the fields of an item, and which items there are
module _ {A : Type 0} (fields_of : A → List (List ℕ)) (InRange : A → Type 0) where
  -- the line of an item, with its end
  abbrev pub item_line : A → List ℕ
  item_line item = line_of (fields_of item)

  -- the text, which lacks a line's end, is that of this item, or of none
  abbrev pub ReadsAs : List ℕ → Option A → Type 0
  ReadsAs text (Some item) = InRange item × (text ≡ text_of (fields_of item))
  ReadsAs text None = (item : A) → InRange item → text ≢ text_of (fields_of item)

  -- the bytes are the lines of these items
  abbrev pub SpellsItems : List ℕ → List A → Type 0
  SpellsItems bytes items = AllByRecursion InRange items × (bytes ≡ flat_map item_line items)

  -- the bytes are the lines of some items
  abbrev pub AreLines : List ℕ → Type 0
  AreLines bytes = (items : List A) × SpellsItems bytes items

  -- there are bytes, and no item's line stands in front
  abbrev pub IsUnreadable : List ℕ → Type 0
  IsUnreadable bytes = (bytes ≢ []) × ((item : A) (more : List ℕ) → InRange item → bytes ≢ item_line item ++ more)

  -- this line, counted from 1, is the first that is malformed
  abbrev pub IsMalformedAt : List ℕ → ℕ → Type 0
  IsMalformedAt bytes number =
      (items : List A) × (front : List ℕ) × (rest : List ℕ)
      × SpellsItems front items × IsUnreadable rest × (bytes ≡ front ++ rest) × (number ≡ length items + 1)

  -- why the bytes are no such file, unless memory ran out
  abbrev pub Faults : List ℕ → LinesFault → Type 0
  Faults bytes NoMemory = Unit {0}
  Faults bytes (Malformed number) = IsMalformedAt bytes number
