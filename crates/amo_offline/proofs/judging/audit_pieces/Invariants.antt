use Rattle.std.proofs.Common.{List, ℕ}
use Rattle.amo_audit.specs.Pieces.{HaveCome}
use Rattle.amo_offline.proofs.judging.audit_pieces.Given as goal

-- the pieces so far have come
abbrev pub invariant-loop-place : goal.invariant-loop-place
invariant-loop-place g l = (pieces : List (List ℕ)) × HaveCome l.audit pieces
