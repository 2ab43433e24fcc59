use Rattle.std.proofs.Common.{◌≡◌, take}
use Rattle.amo_resolve.proofs.explanation.copied.Given as goal

-- copies of the calls so far
abbrev pub invariant-loop-call : goal.invariant-loop-call
invariant-loop-call l = l.copies.items ≡ take l.call-index l.calls
