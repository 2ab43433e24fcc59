-- Which lines of a journal a loss of power makes doubtful.
use Rattle.std.specs.Prelude.{ℕ, ◌-◌, ◌^◌, Bool, true, false, not, ◌&&◌, Option, Some, None, List, [], ◌∷◌, ◌++◌}
use Rattle.std.specs.Str.{bytes_eq}
use Rattle.std.specs.Borrow.{Bor}
use Rattle.amo_lives.specs.declared.doubt.Span.{Span}
use Rattle.amo_lives.specs.declared.life.Life.{Life}

-- whether both are known to be of one start of the machine
abbrev pub same_start : Option (List ℕ) → Option (List ℕ) → Bool
same_start (Some one) (Some other) = bytes_eq one other
same_start _ _ = false

-- whether last lines of a life may be lost, where the machine's start was this one later: it did not put its journal on the disk
abbrev pub is_cut : Life → Option (List ℕ) → Bool
is_cut life later = not life.sync && not (same_start life.boot later)

-- these lines, if last ones may be lost
abbrev pub span_if : Bool → ℕ → ℕ → List Span
span_if true first end = record { first = first; end = end } ∷ []
span_if false first end = []

-- the same of a life, from this line on, with this life behind it; the machine's start is this one now
abbrev pub doubt_before : ℕ → Life → Option (Bor Life) → Option (List ℕ) → List Span
doubt_before since life None now = span_if (is_cut life now) since (2 ^ 64 - 1)
doubt_before since life (Some next) now = span_if (is_cut life next.now.boot) since next.now.first_line

-- and with these behind it
abbrev pub doubt : ℕ → Life → List Life → Option (List ℕ) → List Span
doubt since life [] now = span_if (is_cut life now) since (2 ^ 64 - 1)
doubt since life (next ∷ more) now = span_if (is_cut life next.boot) since next.first_line

-- behind a life that began at this line, the lines of each life of which last ones may be lost, with those of the life before it: a life begins
-- with its first word, and what its host noted before that stands in front of it
abbrev pub doubts_since : ℕ → List Life → Option (List ℕ) → List Span
doubts_since since [] now = []
doubts_since since (life ∷ more) now = doubt since life more now ++ doubts_since life.first_line more now

-- of all lives
abbrev pub doubts : List Life → Option (List ℕ) → List Span
doubts lives now = doubts_since 0 lives now
