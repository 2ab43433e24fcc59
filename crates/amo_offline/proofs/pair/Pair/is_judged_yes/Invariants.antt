use Rattle.std.proofs.Common.{List, ℕ}
use Rattle.amo_audit.specs.Pair.{HaveCome}
use Rattle.amo_offline.proofs.pair.Pair.is_judged_yes.Given as goal

-- pieces of both have come
abbrev pub invariant-rounds : goal.invariant-rounds
invariant-rounds g l = (pieces : List (List ℕ)) × ((pieces' : List (List ℕ)) × HaveCome l.audit pieces pieces')
