use Rattle.std.proofs.Common.{subst, sym}
use Rattle.std.specs.Prelude.{map}
use Rattle.amo_audit.specs.declared.reach.Reach.{Reach}
use Rattle.amo_audit.specs.Outcomes.{TellMerge}
use Rattle.amo_audit.proofs.Beginnings.{InFollowed, whole_tells}
use Rattle.amo_audit.proofs.outcomes.outcomes_of_merged.Goals as goal

pub returns-in_ok-outcomes-in-Whole-clause-told : goal.returns-in_ok-outcomes-in-Whole-clause-told
returns-in_ok-outcomes-in-Whole-clause-told c =
    let all = map (λ outcomes. outcomes.items) c.in_ok-outcomes-in-Whole.field-0.all.items in
    subst (λ (r : Reach). TellMerge c.args.first c.args.second r all) (sym c.in_ok-outcomes-in-Whole.ensures.0)
    (whole_tells InFollowed c.args.first c.args.second c.in-Whole.site all (λ past held. (held.1, c.in_ok-outcomes-in-Whole.ensures.1 past held.1 held.2))
    (rw c.in-Whole.is at c.in_ok-site.ensures))
