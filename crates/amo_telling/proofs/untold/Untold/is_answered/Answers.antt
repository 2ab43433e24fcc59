use Rattle.std.proofs.Common.{◌∙◌, sym}
use Rattle.amo_telling.proofs.untold.Untold.is_answered.Goals as goal

pub returns-in-Some : goal.returns-in-Some
returns-in-Some c = λ is.
    let (put, here, told) = c.in-Some.ensures in
    (put, here, (c.in-Some.outcome, sym c.is_answer.ensures ∙ is, told))
