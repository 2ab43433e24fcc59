-- Two journals that are read while they are merged and judged.
use Rattle.std.specs.Prelude.{ℕ, List}
use Rattle.amo_audit.specs.declared.pair_audit.PairAudit.{PairAudit}
use Rattle.amo_audit.specs.Pair.{HaveCome}

-- whatever had come of both, that has come, or more
abbrev pub HaveGoneOn : PairAudit → PairAudit → Type 0
HaveGoneOn old now = (pieces pieces' : List (List ℕ)) → HaveCome old pieces pieces' → (further : List (List ℕ)) × ((further' : List (List ℕ)) × HaveCome now further further')
