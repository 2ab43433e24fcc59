use Rattle.std.proofs.Common.{◌≡◌, ℕ, ◌++◌, length, replicate}
use Rattle.amo_pieces.proofs.names.without_zeros.Given as goal

-- zeros were in front
abbrev pub invariant-loop-rest : goal.invariant-loop-rest
invariant-loop-rest l = (zeros : ℕ) × (l.fn.digits ≡ replicate zeros 48 ++ l.rest)

abbrev pub decreases-loop-rest : goal.decreases-loop-rest
decreases-loop-rest l = length l.rest
