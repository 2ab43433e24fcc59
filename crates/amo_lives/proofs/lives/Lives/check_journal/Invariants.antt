use Rattle.std.proofs.Common.{◌≤◌, take}
use Rattle.amo_lives.specs.Lives.{reach}
use Rattle.amo_lives.proofs.lives.Lives.check_journal.Given as goal

-- no life before this place begins beyond the lines
abbrev pub invariant-loop-place : goal.invariant-loop-place
invariant-loop-place l = reach (take l.place l.self-inside.lives.items) ≤ l.lines
