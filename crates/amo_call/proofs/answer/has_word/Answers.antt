use Rattle.std.proofs.Common.{List, ℕ}
use Rattle.amo_call.specs.Answer.{HasWord, TellsRefusal}
use Rattle.amo_call.proofs.Steps.{at_none}
use Rattle.amo_call.proofs.answer.has_word.Goals as goal

pub returns-in-None : goal.returns-in-None
returns-in-None c =
    let response = c.args.response.now in (
      λ yes. let bad : ⊥ = cc yes in absurd bad,
      λ (h : HasWord response). absurd (at_none c.read_refusal.result ((word : List ℕ) → ¬ (TellsRefusal word response)) c.in-None.is c.read_refusal.ensures.none h.0 h.1),
    )
