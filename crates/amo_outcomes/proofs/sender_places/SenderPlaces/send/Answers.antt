use Rattle.std.proofs.Common.{◌≡◌, ℕ, None, Some, ◌∙◌, sym, subst}
use Rattle.amo_outcomes.specs.SenderPlaces.{SendsUnder}
use Rattle.amo_world.proofs.Lists.{some_injective}
use Rattle.amo_outcomes.proofs.sender_places.SenderPlaces.send.Goals as goal

differ : (id : ℕ) → None ≡ Some id → ⊥
differ id e = cc

pub returns-in_ok-send_under : goal.returns-in_ok-send_under
returns-in_ok-send_under c = λ id is.
    subst (λ (x : ℕ). SendsUnder x c.args.self.now c.send_under.new.self)
    (some_injective c.in-Some.id id (sym c.in-Some.is ∙ c.accepted.ensures ∙ is)) c.in_ok-send_under.ensures

pub returns-in_default : goal.returns-in_default
returns-in_default c = λ id is. absurd (differ id (sym c.in_default.is ∙ c.accepted.ensures ∙ is))
