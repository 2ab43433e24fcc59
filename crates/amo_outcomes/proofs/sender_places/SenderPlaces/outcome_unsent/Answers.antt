use Rattle.std.proofs.Common.{◌≡◌, ◌<◌, ◌∙◌, inl, inr, false, true, refl, sym, arith}
use Rattle.std.proofs.lemmas.Bool.{cases_lt}
use Rattle.amo_outcomes.proofs.SenderKeeping.{waits_there, asked_there, nowhere}
use Rattle.amo_outcomes.proofs.sender_places.SenderPlaces.outcome_unsent.Goals as goal

differ : false ≡ true → ⊥
differ e = cc

pub returns-then-waits : goal.returns-then-waits
returns-then-waits c = λ mode p h asks keeps not_sent.
    waits_there c.args.self.now mode p h c.args.put keeps (c.if-waits.ensures.0 refl) c.requires

pub returns-then-is_asked : goal.returns-then-is_asked
returns-then-is_asked c = λ mode p h asks keeps not_sent.
    let is = c.if-is_asked.ensures.0 refl in
    asked_there c.args.self.now mode p h c.args.put keeps (sym asks ∙ is.0) is.1 is.2

pub returns : goal.returns
returns c = λ mode p h asks keeps not_sent.
    let k = c.args.self.now in
    let before : c.args.put < k.waiting = elim (cases_lt c.args.put k.waiting) [
      | inl less ↦ less
      | inr there ↦ absurd (differ (c.if-waits.ensures.1 there))
    ] in (
      omega (arith, keeps.marked.each, c.requires),
      not_sent,
      nowhere k mode p h c.args.put keeps before (λ is here. differ (c.if-is_asked.ensures.1 (asks ∙ is, here.0, here.1))),
    )
