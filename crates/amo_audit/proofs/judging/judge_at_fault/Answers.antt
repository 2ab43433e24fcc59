use Rattle.std.proofs.Common.{List, subst}
use Rattle.std.proofs.lemmas.List.{reverse-reverse}
use Rattle.amo_world.specs.declared.event.Event.{Event}
use Rattle.amo_audit.specs.Audit.{Finds}
use Rattle.amo_audit.proofs.Judged.{merge_judged}
use Rattle.amo_audit.proofs.Beginnings.{InAuditor, not_all_merge}
use Rattle.amo_audit.proofs.judging.judge_at_fault.Goals as goal

pub returns-in-Whole : goal.returns-in-Whole
returns-in-Whole c =
    let (x, y, p, q, (apart, (merged, preferred, held))) = rw c.in-Whole.is at c.in_ok-site-2.ensures in
    let finds = subst (λ (events : List Event). Finds c.in-Whole.site.taker.world c.in-Whole.site.taker.finding events) (reverse-reverse merged) held.1 in
    merge_judged c.args.first c.args.second x y merged c.verdict.result p q apart preferred (c.verdict.ensures merged (rw c.into_taker.ensures finds))

pub returns-in-Early : goal.returns-in-Early
returns-in-Early c = not_all_merge InAuditor ⊥ c.args.first c.args.second _ c.in_ok-site-2.ensures c.in-Early.is
