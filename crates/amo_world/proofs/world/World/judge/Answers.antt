use Rattle.std.proofs.Common.{List, subst}
use Rattle.amo_world.specs.declared.event.Event.{Event}
use Rattle.amo_world.specs.KeptStream as stream
use Rattle.amo_world.specs.History.{stream_after}
use Rattle.amo_world.proofs.Worlds.{at_stream, untrue}
use Rattle.amo_world.proofs.world.World.judge.Goals as goal

pub returns-then-not-has_right_reply-clause-fault : goal.returns-then-not-has_right_reply-clause-fault
returns-then-not-has_right_reply-clause-fault c =
    let number = c.args.event.now.stream in
    let kept = at_stream _ c.self.inside.log _ number c.index-stream.result.now c.self.invariant c.requires c.index-stream.ensures in
    let both = subst (λ (p : List Event). stream.Represents c.index-stream.result.now c.self.inside.log.stored.items (stream_after number p)) c.self.view_is kept in
    λ right. untrue _ c.if-not-has_right_reply.true ((c.has_right_reply.ensures _ (stream_after number _) both).1 right)

pub returns-then-not-delivers_emitted-clause-fault : goal.returns-then-not-delivers_emitted-clause-fault
returns-then-not-delivers_emitted-clause-fault c =
    let number = c.args.event.now.stream in
    let kept = at_stream _ c.self.inside.log _ number c.index-stream.result.now c.self.invariant c.requires c.index-stream.ensures in
    let both = subst (λ (p : List Event). stream.Represents c.index-stream.result.now c.self.inside.log.stored.items (stream_after number p)) c.self.view_is kept in (
      (c.has_right_reply.ensures _ (stream_after number _) both).0 c.if-not-has_right_reply.false,
      λ honest. untrue _ c.if-not-delivers_emitted.true ((c.delivers_emitted.ensures (stream_after number _) both).1 honest),
    )

pub returns-else-not-delivers_emitted-clause-sound : goal.returns-else-not-delivers_emitted-clause-sound
returns-else-not-delivers_emitted-clause-sound c =
    let number = c.args.event.now.stream in
    let kept = at_stream _ c.self.inside.log _ number c.index-stream.result.now c.self.invariant c.requires c.index-stream.ensures in
    let both = subst (λ (p : List Event). stream.Represents c.index-stream.result.now c.self.inside.log.stored.items (stream_after number p)) c.self.view_is kept in (
      (c.has_right_reply.ensures _ (stream_after number _) both).0 c.if-not-has_right_reply.false,
      (c.delivers_emitted.ensures (stream_after number _) both).0 c.if-not-delivers_emitted.false,
    )
