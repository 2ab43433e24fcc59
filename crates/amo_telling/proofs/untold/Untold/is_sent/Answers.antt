use Rattle.std.proofs.Common.{subst}
use Rattle.amo_outcomes.specs.declared.sender_outcome.SenderOutcome.{SenderOutcome}
use Rattle.amo_outcomes.specs.SenderOutcome.{HasSenderOutcome}
use Rattle.amo_telling.proofs.untold.Untold.is_sent.Goals as goal

pub returns-in-Some : goal.returns-in-Some
returns-in-Some c = λ is.
    let (put, here, told) = c.in-Some.ensures in
    (put, here, λ past follows. subst (λ (o : SenderOutcome). HasSenderOutcome put.stream past put.place o) (c.is_open.ensures is) (told past follows))
