use Rattle.std.proofs.Common.{List, reverse, subst, sym}
use Rattle.std.specs.Prelude.{map}
use Rattle.std.proofs.lemmas.List.{reverse-reverse}
use Rattle.std.proofs.lemmas.Result.{IfErr-weaker, IfOk-weaker}
use Rattle.amo_world.specs.declared.event.Event.{Event}
use Rattle.amo_outcomes.specs.Told.{StreamsTold}
use Rattle.amo_audit.specs.Audit.{IsSound}
use Rattle.amo_audit.specs.Outcomes.{TellMerge}
use Rattle.amo_audit.specs.declared.reach.Reach.{Reach}
use Rattle.amo_audit.proofs.Beginnings.{InAudited, early_found, early_tells, whole_found, whole_tells}
use Rattle.amo_audit.proofs.outcomes.outcomes_at_fault.Goals as goal

pub returns-in-Whole-clause-told : goal.returns-in-Whole-clause-told
returns-in-Whole-clause-told c =
    IfOk-weaker c.outcomes.result _ _ (λ found told. IfOk-weaker found _ _ (λ it tells.
    let all = map (λ outcomes. outcomes.items) it.all.items in
    subst (λ (r : Reach). TellMerge c.args.first c.args.second r all) (sym tells.0)
    (whole_tells InAudited c.args.first c.args.second c.in-Whole.site all (λ past held. subst (λ (t : List Event). IsSound t × StreamsTold t 256 all) (reverse-reverse past)
    (tells.1 (reverse past) (rw c.into_taker.ensures held.1.0) (rw c.into_taker.ensures held.1.1)))
    (rw c.in-Whole.is at c.in_ok-site-2.ensures))) told) c.outcomes.ensures.told

pub returns-in-Whole-clause-found : goal.returns-in-Whole-clause-found
returns-in-Whole-clause-found c =
    IfOk-weaker c.outcomes.result _ _ (λ found told. IfErr-weaker found _ _ (λ judgement judges.
    whole_found InAudited c.args.first c.args.second c.in-Whole.site judgement (λ past held. judges (reverse past) (rw c.into_taker.ensures held.1.0))
    (rw c.in-Whole.is at c.in_ok-site-2.ensures)) told) c.outcomes.ensures.judged

pub returns-in-Early-clause-told : goal.returns-in-Early-clause-told
returns-in-Early-clause-told c =
    IfOk-weaker c.outcomes-in-Early.result _ _ (λ found told. IfOk-weaker found _ _ (λ it tells.
    let all = map (λ outcomes. outcomes.items) it.all.items in
    subst (λ (r : Reach). TellMerge c.args.first c.args.second r all) (sym tells.0)
    (early_tells InAudited c.args.first c.args.second c.in-Early.site all (λ past held. subst (λ (t : List Event). IsSound t × StreamsTold t 256 all) (reverse-reverse past)
    (tells.1 (reverse past) (rw c.into_taker-in-Early.ensures held.1.0) (rw c.into_taker-in-Early.ensures held.1.1)))
    c.in-Early.reach (rw c.in-Early.is at c.in_ok-site-2.ensures))) told) c.outcomes-in-Early.ensures.told

pub returns-in-Early-clause-found : goal.returns-in-Early-clause-found
returns-in-Early-clause-found c =
    IfOk-weaker c.outcomes-in-Early.result _ _ (λ found told. IfErr-weaker found _ _ (λ judgement judges.
    early_found InAudited c.args.first c.args.second c.in-Early.site judgement (λ past held. judges (reverse past) (rw c.into_taker-in-Early.ensures held.1.0))
    c.in-Early.reach (rw c.in-Early.is at c.in_ok-site-2.ensures)) told) c.outcomes-in-Early.ensures.judged
