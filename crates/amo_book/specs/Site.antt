-- Where a side stands among a book's.
use Rattle.std.specs.Prelude.{◌≡◌, ℕ, List, Some, slice_get}
use Rattle.amo_object.specs.declared.step.End.{End}
use Rattle.amo_book.specs.declared.site.Site.{Site}

-- the side stands at its place
abbrev pub IsSite : List (End × ℕ) → Site → Type 0
IsSite sides site = slice_get sides site.place ≡ Some (site.side, site.stream)
