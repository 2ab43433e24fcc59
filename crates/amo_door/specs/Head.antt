-- What the head of a request says.
use Rattle.std.specs.Prelude.{◌≡◌, ◌⊎◌, ℕ, ◌<◌, ◌^◌, Bool, false, ◌&&◌, Option, None, Some, List, [], ◌∷◌, bytes_eq, codes, if◌then◌else◌}
use Rattle.std.specs.Fmt.{decimal}
use Rattle.std.specs.Str.{str_eq_ignore_ascii_case}
use Rattle.http1.specs.Fields.{Header}

-- whether a field is there, and has this value
abbrev pub says : Option (List ℕ) → List ℕ → Bool
says None value = false
says (Some text) value = bytes_eq text value

-- whether a browser opens the door's own page in a window, by how and for what it asks
abbrev pub opens_page : List ℕ → List ℕ → Option (List ℕ) → Option (List ℕ) → Bool
opens_page method path mode destination =
    bytes_eq method (codes "GET") && bytes_eq path (codes "/") && says mode (codes "navigate") && says destination (codes "document")

-- what the first field of a name has: a name is the same in capitals
abbrev pub field_of : List ℕ → List Header → Option (List ℕ)
field_of name [] = None
field_of name (field ∷ fields) = if str_eq_ignore_ascii_case field.0 name then Some field.1 else field_of name fields

-- how far away the page is that has a browser ask, where that counts: not where it opens the door's own page
abbrev pub site_of : List ℕ → List ℕ → List Header → Option (List ℕ)
site_of method path fields =
    if opens_page method path (field_of (codes "sec-fetch-mode") fields) (field_of (codes "sec-fetch-dest") fields) then None else field_of (codes "sec-fetch-site") fields

-- a text is the number of a line
abbrev pub NamesLine : List ℕ → ℕ → Type 0
NamesLine text line = (text ≡ decimal line) × (line < 2 ^ 64)

-- the line behind which events go on, by the field that says which event was told last, and by the query: the field counts where it is the number of a line
abbrev pub IsBehind : Option (List ℕ) → Option ℕ → Option ℕ → Type 0
IsBehind None after behind = behind ≡ after
IsBehind (Some text) after behind = ((line : ℕ) × NamesLine text line × (behind ≡ Some line)) ⊎ (((line : ℕ) → ¬ (NamesLine text line)) × (behind ≡ after))
