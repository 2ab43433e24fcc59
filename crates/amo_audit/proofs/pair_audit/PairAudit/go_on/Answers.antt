use Rattle.amo_audit.proofs.pair_audit.PairAudit.go_on.Goals as goal

pub step-requires : goal.step-requires
step-requires c =
    let (pieces, pieces', have) = c.requires in
    (pieces, pieces', c.events.invariant pieces pieces' have)

pub returns-in-Some : goal.returns-in-Some
returns-in-Some c = λ pieces pieces' have. (rw c.in-Some.is at c.in_ok-progress.ensures) pieces pieces' (c.events.invariant pieces pieces' have)
