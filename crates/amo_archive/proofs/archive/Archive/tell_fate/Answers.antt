use Rattle.std.proofs.Common.{inl}
use Rattle.std.proofs.lemmas.Result.{IfOk-weaker}
use Rattle.amo_archive.specs.Archive.{IsOfNone, IsOutcome}
use Rattle.amo_archive.proofs.Answered.{both_hold}
use Rattle.amo_archive.proofs.archive.Archive.tell_fate.Goals as goal

pub returns-in-Some : goal.returns-in-Some
returns-in-Some c =
    IfOk-weaker c.outcome.result _ _ (λ answer told lines few read. IsOutcome c.in-Some.place c.fate-fate.result (rw c.in-Some.is at c.life_of.ensures) (c.fate-fate.ensures lines few read) told.0.0 told.1)
    (both_hold c.outcome.result _ _ c.outcome.ensures.head c.outcome.ensures.body)

pub returns-in-None : goal.returns-in-None
returns-in-None c =
    IfOk-weaker c.refusal-in-None.result _ _ (λ answer told lines few read. IsOfNone (inl (rw c.in-None.is at c.life_of.ensures)) told.0.0 told.1) (both_hold c.refusal-in-None.result _ _ c.refusal-in-None.ensures.head c.refusal-in-None.ensures.body)
