-- Failures of a link.
use Rattle.std.specs.Prelude.{ℕ, Option, Some, None}

-- how often a link has failed that fails once, after so many calls
abbrev pub has_failed : Option ℕ → ℕ
has_failed (Some calls) = 0
has_failed None = 1
