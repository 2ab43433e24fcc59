use Rattle.std.proofs.Common.{◌≡◌, ◌+◌, ◌<◌, ◌∷◌, List, length, take, reverse, sym, ◌∙◌, ap, subst, arith}
use Rattle.amo_world.specs.declared.event.Event.{Event}
use Rattle.amo_world.specs.History.{HasRightReply, DeliversEmitted, UsesNewWord, IsRight, IsHonest, IsFresh}
use Rattle.amo_outcomes.specs.Told.{AreFollowed}
use Rattle.amo_outcomes.proofs.Streams.{past_next, beginning}
use Rattle.amo_outcomes.proofs.telling.followed.Goals as goal

pub loop-event-preserved : goal.loop-event-preserved
loop-event-preserved c =
    let events = c.args.events.now in
    let place = c.loop-event.event-index in
    let event = c.event-item.result in
    let within : place < length events = omega (arith, c.loop-event-test.true) in
    let same : c.in_ok-copy.field-0 ≡ event = c.in_ok-copy.ensures.value in
    let history : reverse (take (place + 1) events) ≡ c.in_ok-copy.field-0 ∷ reverse (take place events) =
    past_next events place event within c.event-item.is ∙ ap (λ (e : Event). e ∷ reverse (take place events)) (sym same) in
    subst (λ (past : List Event). AreFollowed c.follow.new.followers.items past) (sym history)
    (c.in_ok-follow.ensures.followed (reverse (take place events))
    (subst (λ (past : List Event). IsRight past) history (beginning HasRightReply events (place + 1) c.requires.right))
    (subst (λ (past : List Event). IsHonest past) history (beginning DeliversEmitted events (place + 1) c.requires.honest))
    (subst (λ (past : List Event). IsFresh past) history (beginning UsesNewWord events (place + 1) c.requires.fresh))
    c.loop-event.invariant)
