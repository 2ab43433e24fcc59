use Rattle.std.proofs.Common.{◌≡◌, Option, None, Some, [], ◌∷◌, List, sym, ◌∙◌, ap, subst}
use Rattle.std.specs.Prelude.{slice_get}
use Rattle.std.specs.Option.{IfSome}
use Rattle.amo_world.specs.declared.emission.Emission.{Emission}
use Rattle.amo_world.specs.declared.event.Event.{Event}
use Rattle.amo_world.specs.Stream.{IsStream}
use Rattle.amo_world.specs.History.{stream_after, emissions, HasRightReply, DeliversEmitted, UsesNewWord, IsRight, IsHonest, IsFresh}
use Rattle.amo_world.specs.World.{IsRepeat, delivery_of}
use Rattle.amo_world.specs.Doubt.{Moves}
use Rattle.amo_world.specs.View.{view}
use Rattle.amo_world.proofs.Emitted.{of_stream}
use Rattle.amo_world.proofs.Serving.{event_moves, serves}
use Rattle.amo_world.proofs.Worlds.{both_ok, delivers_right, never_unsent, repeat_tells, is_repeat}
use Rattle.amo_world.proofs.world.World.apply_emitted.Goals as goal

pub commit-requires-clause-stream : goal.commit-requires-clause-stream
commit-requires-clause-stream c =
    let is : slice_get (emissions c.self.inside.log.history) c.args.number ≡ Some c.in-Some.emission.now = sym (c.self.invariant.emitted c.args.number) ∙ sym c.in-Some.ensures in
    subst (λ (e : Event). IsStream e.stream) (sym c.in_ok-event.ensures.event)
    (of_stream IsStream _ c.args.number c.in-Some.emission.now c.self.invariant.within is)

pub commit-requires-clause-sound : goal.commit-requires-clause-sound
commit-requires-clause-sound c =
    let is : slice_get (emissions c.self.inside.log.history) c.args.number ≡ Some c.in-Some.emission.now = sym (c.self.invariant.emitted c.args.number) ∙ sym c.in-Some.ensures in
    let at : slice_get (emissions c.args.self.now) c.args.number ≡ Some c.in-Some.emission.now = subst (λ (h : List Event). slice_get (emissions h) c.args.number ≡ Some c.in-Some.emission.now) c.self.view_is is in
    subst (λ (e : Event). HasRightReply c.args.self.now e × DeliversEmitted c.args.self.now e) (sym c.in_ok-event.ensures.event)
    (delivers_right c.args.self.now c.args.pass c.args.word c.args.number c.in-Some.emission.now at)

pub returns-clause-moved : goal.returns-clause-moved
returns-clause-moved c =
    let past = c.args.self.now in
    let x = c.in-Some.emission.now in
    let e = delivery_of c.args.pass x c.args.word in
    let is : slice_get (emissions c.self.inside.log.history) c.args.number ≡ Some x = sym (c.self.invariant.emitted c.args.number) ∙ sym c.in-Some.ensures in
    let at : slice_get (emissions past) c.args.number ≡ Some x = subst (λ (h : List Event). slice_get (emissions h) c.args.number ≡ Some x) c.self.view_is is in
    both_ok c.commit.result _ _ _ (λ accepted all.
    let now : c.commit.new.self ≡ e ∷ past = accepted ∙ ap (λ (y : Event). y ∷ past) c.in_ok-event.ensures.event in
    let sound = subst (λ (h : List Event). IsRight h × IsHonest h × IsFresh h) now all in
    subst (λ (o : Option Emission). IfSome o (λ y. Moves (view (stream_after y.packet.stream past)) [] (view (stream_after y.packet.stream c.commit.new.self)))) (sym at)
    (subst (λ (h : List Event). Moves (view (stream_after x.packet.stream past)) [] (view (stream_after x.packet.stream h))) (sym now)
    (event_moves past e sound.0 sound.1 sound.2))) c.commit.ensures.accepted c.commit.ensures.sound

pub returns-clause-served : goal.returns-clause-served
returns-clause-served c = both_ok c.commit.result _ _ _ (λ sound _. λ number. serves number c.commit.new.self sound.0 sound.1 sound.2) c.commit.ensures.sound c.commit.ensures.sound

pub returns-clause-unsent : goal.returns-clause-unsent
returns-clause-unsent c =
    let past = c.args.self.now in
    let x = c.in-Some.emission.now in
    let is : slice_get (emissions c.self.inside.log.history) c.args.number ≡ Some x = sym (c.self.invariant.emitted c.args.number) ∙ sym c.in-Some.ensures in
    let at : slice_get (emissions past) c.args.number ≡ Some x = subst (λ (h : List Event). slice_get (emissions h) c.args.number ≡ Some x) c.self.view_is is in
    let sound = subst (λ (e : Event). HasRightReply past e × DeliversEmitted past e) (sym c.in_ok-event.ensures.event) (delivers_right past c.args.pass c.args.word c.args.number x at) in
    let none_is_some : None ≡ Some x → ⊥ = λ h. cc in (
      λ unsent. absurd (never_unsent past c.in_ok-event.event sound.0 sound.1 c.commit.result c.commit.ensures.fault unsent),
      λ none. absurd (none_is_some (sym none ∙ at)),
    )

pub returns-clause-repeat : goal.returns-clause-repeat
returns-clause-repeat c =
    let past = c.args.self.now in
    let x = c.in-Some.emission.now in
    let e = c.in_ok-event.event in
    let is : slice_get (emissions c.self.inside.log.history) c.args.number ≡ Some x = sym (c.self.invariant.emitted c.args.number) ∙ sym c.in-Some.ensures in
    let at : slice_get (emissions past) c.args.number ≡ Some x = subst (λ (h : List Event). slice_get (emissions h) c.args.number ≡ Some x) c.self.view_is is in
    let sound = subst (λ (e : Event). HasRightReply past e × DeliversEmitted past e) (sym c.in_ok-event.ensures.event) (delivers_right past c.args.pass c.args.word c.args.number x at) in
    let new = both_ok c.commit.result _ _ (UsesNewWord past e) (λ accepted all. let fresh : IsFresh (e ∷ past) = subst (λ (h : List Event). IsFresh h) accepted all.2 in fresh.0) c.commit.ensures.accepted c.commit.ensures.sound in (
      λ repeat. subst (IsRepeat past c.args.pass c.args.word) (sym at)
          (subst (λ (e : Event). ¬ (UsesNewWord past e)) c.in_ok-event.ensures.event (repeat_tells past e sound.0 sound.1 c.commit.result c.commit.ensures.fault repeat)),
      λ again. is_repeat past e sound.0 sound.1 c.commit.result c.commit.ensures.fault new
          (subst (λ (e : Event). ¬ (UsesNewWord past e)) (sym c.in_ok-event.ensures.event) (subst (IsRepeat past c.args.pass c.args.word) at again)),
    )
