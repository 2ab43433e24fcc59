-- The numbers of refusals that several crates share.
use Rattle.std.specs.Prelude.{ℕ}

-- memory was refused
abbrev pub no_memory_code : ℕ
no_memory_code = 9
