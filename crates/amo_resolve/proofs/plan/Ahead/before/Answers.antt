use Rattle.std.proofs.Common.{◌+◌, ◌∷◌, ◌++◌, [], List, ℕ, false, sym, ◌∙◌, ap, subst}
use Rattle.amo_object.specs.declared.step.Step.{Step}
use Rattle.amo_object.specs.Delivery.{messages_got}
use Rattle.amo_resolve.specs.declared.plan.Ahead.{Ahead}
use Rattle.amo_resolve.specs.Plan.{GoesAfter, Asks, IsAhead, gets_here}
use Rattle.amo_resolve.proofs.Stepping.{ahead_put, ahead_get, ahead_same, here_answered}
use Rattle.amo_resolve.proofs.plan.Ahead.before.Goals as goal

pub returns-in-Put-clause-ahead : goal.returns-in-Put-clause-ahead
returns-in-Put-clause-ahead c = λ calls notes note from known.
    let asked = c.put-asked.result in
    let before : Ahead = record asked { got = 0; is_told_yes = false; is_told_no = false } in
    subst (λ (call : Step). IsAhead before (call ∷ calls) (note ∷ notes)) (sym c.in-Put.is)
    (ahead_put asked.here asked.most asked.spared asked.is_settled _ calls notes note
    (subst (λ (m : List ℕ). Asks asked.here asked.most asked.spared asked.is_settled (λ (xs : List (List ℕ)). GoesAfter calls notes note (xs ++ m ∷ [])) (messages_got calls)) c.as_slice.ensures
    (c.put-asked.ensures.asks calls notes note from known)))

pub returns-in-Get-clause-ahead : goal.returns-in-Get-clause-ahead
returns-in-Get-clause-ahead c = λ calls notes note from known.
    let before : Ahead = record c.args.self { here = c.args.self.here + 1; most = c.args.self.most + 1; got = c.args.self.got + 1 } in
    subst (λ (call : Step). IsAhead before (call ∷ calls) (note ∷ notes)) (sym c.in-Get.is) (ahead_get c.args.self c.in-Get.field-0 calls notes note known)

pub returns-in-Ack-clause-ahead : goal.returns-in-Ack-clause-ahead
returns-in-Ack-clause-ahead c = λ calls notes note from known.
    subst (λ (call : Step). IsAhead c.answer.result (call ∷ calls) (note ∷ notes)) (sym c.in-Ack.is) (c.answer.ensures.ahead calls notes note known)

pub returns-in-Ack-clause-here : goal.returns-in-Ack-clause-here
returns-in-Ack-clause-here c = c.answer.ensures.here ∙ here_answered _ c.args.self.here ∙ ap (λ (call : Step). gets_here call c.args.self.here) (sym c.in-Ack.is)

pub returns-in_default-clause-ahead : goal.returns-in_default-clause-ahead
returns-in_default-clause-ahead c = λ calls notes note from known.
    ahead_same c.args.self c.args.call.now calls notes note c.in_default.not-Put c.in_default.not-Get c.in_default.not-Ack known
