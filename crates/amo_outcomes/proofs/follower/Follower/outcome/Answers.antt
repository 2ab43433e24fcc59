use Rattle.std.proofs.Common.{◌≡◌, ◌∙◌, ap, refl, Bool, true, false, subst}
use Rattle.std.specs.List.{Contains}
use Rattle.amo_core.specs.Automaton.{mode_of}
use Rattle.amo_outcomes.specs.Places.{asks, asked_if}
use Rattle.amo_outcomes.proofs.Streams.{got_told, arriving_told, asked_told, waiting_told, gone_told}
use Rattle.amo_outcomes.proofs.follower.Follower.outcome.Goals as goal

differ : false ≡ true → ⊥
differ e = cc

pub returns-then-was_got : goal.returns-then-was_got
returns-then-was_got c = λ number past right honest fresh follows.
    got_told c.args.self.now number past follows c.args.put c.requires c.if-was_got.ensures

pub returns-then-arrives : goal.returns-then-arrives
returns-then-arrives c = λ number past right honest fresh follows.
    arriving_told c.args.self.now number past follows c.args.put (c.if-arrives.ensures.0 refl)

pub returns-then-waits : goal.returns-then-waits
returns-then-waits c = λ number past right honest fresh follows.
    waiting_told c.args.self.now number past follows c.args.put (c.if-waits.ensures.0 refl)

pub returns-then-is_asked : goal.returns-then-is_asked
returns-then-is_asked c = λ number past right honest fresh follows.
    let asking : c.asks.result ≡ asks (mode_of c.args.self.now.sender) = c.asks.ensures ∙ ap asks c.mode.ensures in
    asked_told c.args.self.now number past follows c.args.put
    (subst (λ (b : Bool). Contains (asked_if b c.args.self.now.places) c.args.put) asking (c.if-is_asked.ensures.0 refl))

pub returns : goal.returns
returns c = λ number past right honest fresh follows.
    let asking : c.asks.result ≡ asks (mode_of c.args.self.now.sender) = c.asks.ensures ∙ ap asks c.mode.ensures in
    gone_told c.args.self.now number past follows c.args.put c.requires c.if-was_got.ensures (λ x. differ
    (c.if-arrives.ensures.1 x))
    (λ x. differ (c.if-waits.ensures.1 x))
    (subst (λ (b : Bool). ¬ (Contains (asked_if b c.args.self.now.places) c.args.put)) asking (λ x. differ
    (c.if-is_asked.ensures.1 x)))
