use Rattle.std.proofs.Common.{◌≡◌, ◌+◌, ◌<◌, ◌∷◌, List, length, take, reverse, sym, subst, arith}
use Rattle.amo_world.specs.declared.event.Event.{Event}
use Rattle.amo_world.specs.History.{HasRightReply, IsRight}
use Rattle.amo_outcomes.specs.SenderFollower.{SendersFollowed}
use Rattle.amo_outcomes.proofs.Streams.{past_next, beginning}
use Rattle.amo_outcomes.proofs.sender_telling.followed.Goals as goal

pub loop-event-preserved : goal.loop-event-preserved
loop-event-preserved c =
    let events = c.args.events.now in
    let place = c.loop-event.event-index in
    let event = c.event-item.result in
    let within : place < length events = omega (arith, c.loop-event-test.true) in
    let history : reverse (take (place + 1) events) ≡ event ∷ reverse
    (take place events) = past_next events place event within c.event-item.is in
    subst (λ (past : List Event). SendersFollowed c.follow.new.followers.items past) (sym history)
    (c.in_ok-follow.ensures.followed (reverse (take place events))
    (λ m is. (subst (λ (past : List Event). IsRight past) history (beginning HasRightReply events (place + 1) c.requires.right)).0)
    c.loop-event.invariant)
