-- What a host tells of its peer.
use Rattle.std.specs.Prelude.{ℕ, ◌-◌, Bool, false, nat_le, Option, Some, None}

-- a silence that began then has lasted for ten seconds, in microseconds
abbrev pub is_long : Option ℕ → ℕ → Bool
is_long None now = false
is_long (Some since) now = nat_le 10000000 (now - since)
