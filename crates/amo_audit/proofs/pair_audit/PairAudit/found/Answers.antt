use Rattle.amo_audit.proofs.Pair.{found_yes}
use Rattle.amo_audit.proofs.Steps.{untrue}
use Rattle.amo_audit.proofs.pair_audit.PairAudit.found.Goals as goal

pub returns-then-not-meets : goal.returns-then-not-meets
returns-then-not-meets c = λ pieces pieces' have.
    let yes = c.if-is_all_taken.true in let yes' = c.if-is_all_taken-2.true in
    found_yes c.args.self.now pieces pieces' have (c.is_all_taken.ensures.next yes) (c.is_all_taken-then-is_all_taken.ensures.next yes') (c.is_all_taken.ensures.all yes) (c.is_all_taken-then-is_all_taken.ensures.all yes')
    (λ x y marks marks' known known' shares. untrue _ c.if-not-meets.true ((c.meets.ensures x y marks marks' known known').1 shares))
