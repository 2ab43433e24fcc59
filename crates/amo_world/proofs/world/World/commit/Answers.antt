use Rattle.std.proofs.Common.{◌-◌, ◌<◌, ◌^◌, ◌∷◌, List, length, set, refl, sym, ◌∙◌, ap, subst, arith}
use Rattle.std.proofs.lemmas.Result.{err_from_is_err_and}
use Rattle.amo_world.specs.declared.event.Event.{Event}
use Rattle.amo_world.specs.History.{HasRightReply, DeliversEmitted, IsRight, IsHonest, IsFresh}
use Rattle.amo_world.specs.World.{Represents, Refuses}
use Rattle.amo_world.proofs.Worlds.{at_stream, refused, new_where_noted, denoted_event, stream_advanced, world_stays, world_grows}
use Rattle.amo_world.proofs.world.World.commit.Goals as goal

pub invariant_of-self : goal.invariant_of-self
invariant_of-self c =
    let inside : c.args.event.stream - 1 < length c.self.inside.streams.items = omega (arith, c.self.invariant.count, c.requires.stream.0, c.requires.stream.1) in
    subst (λ (p : List Event). Represents (set c.self.inside.streams.items (c.args.event.stream - 1) c.note.new.self) c.note.new.log p) (sym c.in_err-emitted.ensures.log.history)
    (world_stays _ c.self.inside.log c.note.new.log _ (c.args.event.stream - 1) c.index_mut-stream.result.now c.note.new.self c.args.event.side c.self.invariant inside c.index_mut-stream.ensures.value
    c.in_err-emitted.ensures.noted.1 c.in_err-emitted.ensures.other c.in_err-emitted.ensures.log)

pub returns-in_err-emitted-clause-fault : goal.returns-in_err-emitted-clause-fault
returns-in_err-emitted-clause-fault c =
    let e = c.args.event in
    let w = c.self.invariant in
    let right = subst (λ (p : List Event). HasRightReply p e) (sym c.self.view_is) c.requires.sound.0 in
    let honest = subst (λ (p : List Event). DeliversEmitted p e) (sym c.self.view_is) c.requires.sound.1 in
    let both = at_stream _ c.self.inside.log _ e.stream c.index_mut-stream.result.now w c.requires.stream c.index_mut-stream.ensures.value in
    let why = refused c.index_mut-stream.result.now c.self.inside.log.stored.items _ e both w.honest w.fresh c.in_err-emitted.field-0.0 c.in_err-emitted.ensures.noted.0 right honest in
    let p = err_from_is_err_and c.from_residual.result c.from_residual.ensures.1 in
    rw (p.1, p.2) (subst (λ (h : List Event). Refuses h e c.in_err-emitted.field-0.0) c.self.view_is why)

pub invariant_of-self-2 : goal.invariant_of-self-2
invariant_of-self-2 c =
    let e = c.args.event in
    let w = c.self.invariant in
    let log = c.self.inside.log in
    let same = c.in_ok-emitted.ensures.log in
    let what = c.in_ok-emitted.emitted in
    let right = subst (λ (p : List Event). HasRightReply p e) (sym c.self.view_is) c.requires.sound.0 in
    let honest = subst (λ (p : List Event). DeliversEmitted p e) (sym c.self.view_is) c.requires.sound.1 in
    let was = c.index_mut-stream.result.now in
    let both = at_stream _ log _ e.stream was w c.requires.stream c.index_mut-stream.ensures.value in
    let noted = c.in_ok-emitted.ensures.noted in
    let few : c.push.new.self.events < 2 ^ 63 = subst (λ n. n < 2 ^ 63) (sym c.push.ensures.events) c.in_ok-emitted.ensures.room.events in
    subst (λ (p : List Event). Represents (set c.self.inside.streams.items (c.args.event.stream - 1) c.advance.new.self) c.push.new.self p) (sym (c.push.ensures.history ∙ ap (λ (p : List Event). e ∷ p) same.history))
    (world_grows _ log c.push.new.self _ e was c.advance.new.self what w c.requires.stream c.index_mut-stream.ensures.value
    (stream_advanced was log.stored.items _ e both w.honest w.fresh honest what c.note.new.self c.advance.new.self noted.0 noted.1 c.in_ok-emitted.ensures.other c.advance.ensures.state c.advance.ensures.index c.advance.ensures.other)
    (denoted_event was log.stored.items _ e both w.honest w.fresh honest what noted.0)
    (rw (c.push.ensures.stored, same.stored) refl) (rw (c.push.ensures.order, same.order, same.stored) refl) (rw (c.push.ensures.events, same.events) refl) few
    right honest (new_where_noted was log.stored.items _ e both what noted.0))

pub returns-clause-sound : goal.returns-clause-sound
returns-clause-sound c =
    let e = c.args.event in
    let w = c.self.invariant in
    let same = c.in_ok-emitted.ensures.log in
    let right = subst (λ (p : List Event). HasRightReply p e) (sym c.self.view_is) c.requires.sound.0 in
    let honest = subst (λ (p : List Event). DeliversEmitted p e) (sym c.self.view_is) c.requires.sound.1 in
    let was = c.index_mut-stream.result.now in
    let both = at_stream _ c.self.inside.log _ e.stream was w c.requires.stream c.index_mut-stream.ensures.value in
    let fresh = new_where_noted was c.self.inside.log.stored.items _ e both c.in_ok-emitted.emitted c.in_ok-emitted.ensures.noted.0 in
    subst (λ (p : List Event). IsRight p × IsHonest p × IsFresh p) (sym (c.push.ensures.history ∙ ap (λ (p : List Event). e ∷ p) same.history))
    ((right, w.right), (honest, w.honest), (fresh, w.fresh))
