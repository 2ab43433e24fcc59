use Rattle.std.proofs.Common.{List, sym, subst}
use Rattle.std.specs.Option.{option_to_list}
use Rattle.amo_world.specs.declared.event.Event.{Event}
use Rattle.amo_world.specs.History.{stream_after, stream_before, IsRight, IsHonest, IsFresh}
use Rattle.amo_world.specs.Served.{call_of}
use Rattle.amo_world.specs.Doubt.{Moves}
use Rattle.amo_world.specs.View.{view}
use Rattle.amo_world.proofs.Worlds.{both_ok}
use Rattle.amo_world.proofs.Serving.{event_moves, serves}
use Rattle.amo_world.proofs.world.World.apply.Goals as goal

pub returns-clause-moved : goal.returns-clause-moved
returns-clause-moved c =
    let e = c.args.event in
    let past = c.args.self.now in
    both_ok c.commit.result _ _ _ (λ accepted all.
    let sound = subst (λ (h : List Event). IsRight h × IsHonest h × IsFresh h) accepted all in
    subst (λ (h : List Event). Moves (view (stream_before past e)) (option_to_list (call_of e.side e.act e.reply)) (view (stream_after e.stream h)))
    (sym accepted) (event_moves past e sound.0 sound.1 sound.2)) c.commit.ensures.accepted c.commit.ensures.sound

pub returns-clause-served : goal.returns-clause-served
returns-clause-served c = both_ok c.commit.result _ _ _ (λ sound _. λ number. serves number c.commit.new.self sound.0 sound.1 sound.2) c.commit.ensures.sound c.commit.ensures.sound
