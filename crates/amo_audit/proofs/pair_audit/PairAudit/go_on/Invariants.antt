use Rattle.std.proofs.Common.{List, ℕ}
use Rattle.amo_audit.specs.Pair.{HaveCome}
use Rattle.amo_audit.proofs.pair_audit.PairAudit.go_on.Given as goal

-- the same pieces have come
abbrev pub invariant-events : goal.invariant-events
invariant-events l = (pieces pieces' : List (List ℕ)) → HaveCome l.fn.self pieces pieces' → HaveCome l.self pieces pieces'
