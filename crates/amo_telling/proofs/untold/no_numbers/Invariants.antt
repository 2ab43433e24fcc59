use Rattle.std.proofs.Common.{◌≡◌, length}
use Rattle.amo_telling.proofs.untold.no_numbers.Given as goal

-- so many
abbrev pub invariant-loop-stream : goal.invariant-loop-stream
invariant-loop-stream l = length l.numbers.items ≡ l._stream
