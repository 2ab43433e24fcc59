use Rattle.std.proofs.Common.{◌≡◌, take, drop}
use Rattle.amo_core.proofs.sender.advance.take_batch.Given as goal

-- so many are taken as there were turns
abbrev pub invariant-batch : goal.invariant-batch
invariant-batch l = (l.batch.items ≡ take l.counter l.fn.waiting.items) × (l.waiting.items ≡ drop l.counter l.fn.waiting.items)
