-- The numbers of what a side refuses.
use Rattle.std.specs.Prelude.{ℕ}

-- the waiting list is full
abbrev pub full_code : ℕ
full_code = 41

-- the side's host is down
abbrev pub down_code : ℕ
down_code = 42

-- no message has come
abbrev pub nothing_code : ℕ
nothing_code = 45
