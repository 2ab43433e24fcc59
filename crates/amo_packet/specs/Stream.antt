-- The streams of a host.
use Rattle.std.specs.Prelude.{ℕ, ◌≤◌}

-- a number that a stream of a host has
abbrev pub IsStream : ℕ → Type 0
IsStream stream = (1 ≤ stream) × (stream ≤ 256)
