use Rattle.std.proofs.Common.{◌≡◌, ℕ, List, ◌∷◌, ◌++◌, length}
use Rattle.amo_arguments.proofs.values.behind_last.Given as goal

-- what is left stands behind such a byte
abbrev pub invariant-bytes : goal.invariant-bytes
invariant-bytes l = (front : List ℕ) × (l.text ≡ front ++ l.byte ∷ l.rest)

abbrev pub decreases-bytes : goal.decreases-bytes
decreases-bytes l = length l.rest
