-- An audit of two journals that goes on with one of them.
use Rattle.std.proofs.Common.{ℕ, List}
use Rattle.amo_audit.specs.declared.pair_audit.PairAudit.{PairAudit}
use Rattle.amo_audit.specs.declared.pair_audit.Which.{Which}
use Rattle.amo_audit.specs.declared.pair_audit.Which.TheVariants.{First, Second}
use Rattle.amo_audit.specs.Pair.{HaveComeOf}
use Rattle.amo_offline.specs.Pair.{HaveGoneOn}

-- more has come of this one
pub one_goes_on : (which : Which) (old now : PairAudit) → ((pieces others : List (List ℕ)) → HaveComeOf which old pieces others → (further : List (List ℕ)) × HaveComeOf which now further others) → HaveGoneOn old now
one_goes_on First old now goes = λ pieces pieces' have. let (further, come) = goes pieces pieces' have in (further, (pieces', come))
one_goes_on Second old now goes = λ pieces pieces' have. let (further, come) = goes pieces' pieces have in (pieces, (further, come))

-- and then more
pub twice_gone_on : (old between now : PairAudit) → HaveGoneOn old between → HaveGoneOn between now → HaveGoneOn old now
twice_gone_on old between now once again = λ pieces pieces' have. let (further, (further', come)) = once pieces pieces' have in again further further' come
