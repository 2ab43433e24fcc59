use Rattle.std.proofs.Common.{ℕ}
use Rattle.std.specs.List.{Contains}
use Rattle.amo_telling.specs.Untold.{IsSentHere}
use Rattle.amo_telling.proofs.untold.Untold.sent_before.Given as goal

-- those so far were sent
abbrev pub invariant-loop-number : goal.invariant-loop-number
invariant-loop-number l = (number : ℕ) → Contains l.sent.items number → IsSentHere l.self l.event.act number
