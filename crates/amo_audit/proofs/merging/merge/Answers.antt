use Rattle.std.proofs.Common.{[], List, reverse, sym, ◌∙◌, subst}
use Rattle.std.proofs.lemmas.List.{append-nil, reverse-reverse}
use Rattle.amo_world.specs.declared.event.Event.{Event}
use Rattle.amo_world.specs.History.{IsHonest}
use Rattle.amo_audit.proofs.Greedy.{honest_history, preferred_is_honest}
use Rattle.amo_audit.proofs.merging.merge.Goals as goal

pub returns-in-Whole-clause-honest : goal.returns-in-Whole-clause-honest
returns-in-Whole-clause-honest c =
    let (x, y, p, q, (apart, (merged, preferred, held))) = rw c.in-Whole.is at c.in_ok-site-2.ensures in
    let honest = honest_history [] merged (preferred_is_honest [] x y merged preferred) tt in
    let same = held.1 ∙ reverse-reverse merged in
    rw c.into_taker.ensures (subst (λ (t : List Event). IsHonest (reverse t)) (sym same) (subst IsHonest (append-nil (reverse merged)) honest))
