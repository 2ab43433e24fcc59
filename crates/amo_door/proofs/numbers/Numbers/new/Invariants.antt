use Rattle.std.proofs.Common.{◌≡◌, None, replicate}
use Rattle.amo_door.proofs.numbers.Numbers.new.Given as goal

-- so many streams have nothing
abbrev pub invariant-loop-stream : goal.invariant-loop-stream
invariant-loop-stream l = l.lasts.items ≡ replicate l._stream None
