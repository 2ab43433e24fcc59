use Rattle.std.proofs.Common.{refl}
use Rattle.std.proofs.lemmas.Result.{IfErr-weaker, IfOk-weaker}
use Rattle.amo_audit.proofs.Explained.{good_lines}
use Rattle.amo_audit.proofs.Found.{events_judged}
use Rattle.amo_audit.proofs.explaining.runs_of.Goals as goal

pub returns-clause-good : goal.returns-clause-good
returns-clause-good c = IfOk-weaker c.runs_of_events.result _ _ (λ runs sound. good_lines c.args.lines c.in_ok-events.events.items c.in_ok-events.ensures.told (rw c.as_slice.ensures.value at sound)) c.runs_of_events.ensures.sound

pub returns-clause-explained : goal.returns-clause-explained
returns-clause-explained c = IfOk-weaker c.runs_of_events.result _ _
    (λ runs resolved. (c.in_ok-events.events.items, runs.items, c.in_ok-events.ensures.told, rw c.as_slice.ensures.value at resolved, refl)) c.runs_of_events.ensures.explained

pub returns-clause-judged : goal.returns-clause-judged
returns-clause-judged c = IfErr-weaker c.runs_of_events.result _ _
    (λ v judged. (events_judged c.args.lines c.in_ok-events.events.items v c.in_ok-events.ensures.told (rw c.as_slice.ensures.value at judged.0), judged.1)) c.runs_of_events.ensures.judged
