use Rattle.std.proofs.Common.{◌∷◌, Bool, true, false, sym, subst}
use Rattle.amo_object.specs.declared.step.Step.TheVariants.{Ack}
use Rattle.amo_resolve.specs.declared.plan.Ahead.{Ahead}
use Rattle.amo_resolve.specs.Plan.{IsAhead}
use Rattle.amo_resolve.proofs.Stepping.{ahead_yes, ahead_no}
use Rattle.amo_resolve.proofs.plan.Ahead.answer.Goals as goal

pub returns-then-answer-clause-ahead : goal.returns-then-answer-clause-ahead
returns-then-answer-clause-ahead c = λ calls notes note known.
    let before : Ahead = record { here = 0; most = 0; spared = 0; is_settled = true; got = 0; is_told_yes = true; is_told_no = false } in
    subst (λ (answer : Bool). IsAhead before (Ack answer ∷ calls) (note ∷ notes)) (sym c.if-answer.true) (ahead_yes calls notes note)

pub returns-clause-ahead : goal.returns-clause-ahead
returns-clause-ahead c = λ calls notes note known.
    let before : Ahead = record c.args.self { got = 0; is_told_yes = false; is_told_no = true } in
    subst (λ (answer : Bool). IsAhead before (Ack answer ∷ calls) (note ∷ notes)) (sym c.if-answer.false) (ahead_no c.args.self calls notes note known)
