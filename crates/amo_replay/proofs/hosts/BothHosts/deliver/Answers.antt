use Rattle.std.proofs.Common.{◌≡◌, ◌∷◌, ◌∙◌, Err, Some, Option, slice_get, sym, ap, subst, IfSome}
use Rattle.amo_object.specs.declared.step.End.{End}
use Rattle.amo_object.specs.End.{other}
use Rattle.amo_packet.specs.Packet.{packet_of}
use Rattle.amo_core.specs.declared.act.Act.TheVariants as act
use Rattle.amo_core.specs.declared.reply.Reply.TheVariants.{Done}
use Rattle.amo_world.specs.declared.emission.Emission.{Emission}
use Rattle.amo_world.specs.declared.event.Event.{Event}
use Rattle.amo_world.specs.declared.fault.WorldFault.{WorldFault}
use Rattle.amo_world.specs.Stream.{emission_of}
use Rattle.amo_world.specs.History.{stream_before, emissions, events_of, IsFresh}
use Rattle.amo_world.specs.World.{delivery_of, IsRepeat}
use Rattle.amo_replay.specs.Transcript.{event_at, checked}
use Rattle.amo_replay.specs.Sides.{AddsWriting}
use Rattle.amo_replay.specs.Stop.{StopsAs}
use Rattle.amo_replay.proofs.Applying.{checked_event, refused}
use Rattle.amo_replay.proofs.Answering.{own_before, right_after, replied_right, writes_after, line_is, delivered, not_none}
use Rattle.amo_replay.proofs.hosts.BothHosts.deliver.Goals.{in-Ok, in-Err}
use Rattle.amo_replay.proofs.hosts.BothHosts.deliver.Goals as goal

pub returns-in_err-write_line-clause-own : goal.returns-in_err-write_line-clause-own
returns-in_err-write_line-clause-own c = rw (sym c.self.view_is) (own_before _ _ _ c.in_ok-length.ensures.added.0)

pub returns-clause-own : goal.returns-clause-own
returns-clause-own c = rw (sym c.self.view_is) (own_before _ _ _ c.in_ok-length.ensures.added.0)

pub returns-clause-applied : goal.returns-clause-applied
returns-clause-applied c =
    let h = c.self.inside.world in
    let x : Emission = record { side = c.in-Some.from; packet = packet_of c.in-Some.packet } in
    let e = event_at (other x.side) x.packet.stream (act.Deliver x.packet c.args.word) Done in
    let found : slice_get (emissions h) c.args.number ≡ Some x = sym c.in-Some.ensures.value in
    let added : AddsWriting c.self.inside.sides c.deliver.new.self e c.args.page.now.packet c.deliver.new.buffer c.in_ok-length.length =
    subst (λ (s : End). AddsWriting c.self.inside.sides c.deliver.new.self (event_at s x.packet.stream (act.Deliver x.packet c.args.word) Done) c.args.page.now.packet c.deliver.new.buffer c.in_ok-length.length) c.other.ensures c.in_ok-length.ensures.added in
    let agree : events_of 0 c.self.inside.sides ≡ h = rw (sym c.self.view_is) at c.requires.agree in
    elim c.match-apply_emitted.branch [
      | in-Ok w ↦ rw (w.result-is, sym c.self.view_is) (λ own.
          let right = right_after h c.self.inside.sides c.deliver.new.self e agree added.0 own in
          let grown : c.apply_emitted.new.self ≡ e ∷ h =
          subst (λ (o : Option Emission). IfSome o (λ y. c.apply_emitted.new.self ≡ delivery_of 0 y c.args.word ∷ h)) found w.in-Ok.ensures.accepted in (
            e,
            ap (checked h) (delivered h c.args.number c.args.word x found)
                ∙ checked_event h e e (replied_right h (other x.side) x.packet.stream (act.Deliver x.packet c.args.word) Done right) (subst IsFresh grown w.in-Ok.ensures.sound.2).0,
            grown,
            line_is h e _ (c.in_ok-write_line.ensures.text (emission_of (stream_before h e) e.side e.act) c.args.page.now.packet (writes_after h c.self.inside.sides c.deliver.new.self e c.args.page.now.packet c.deliver.new.buffer c.in_ok-length.length agree added own)),
          ))
      | in-Err w ↦ rw w.result-is tt
    ]

pub returns-clause-stopped : goal.returns-clause-stopped
returns-clause-stopped c =
    let h = c.self.inside.world in
    let x : Emission = record { side = c.in-Some.from; packet = packet_of c.in-Some.packet } in
    let e = event_at (other x.side) x.packet.stream (act.Deliver x.packet c.args.word) Done in
    let found : slice_get (emissions h) c.args.number ≡ Some x = sym c.in-Some.ensures.value in
    let added : AddsWriting c.self.inside.sides c.deliver.new.self e c.args.page.now.packet c.deliver.new.buffer c.in_ok-length.length =
    subst (λ (s : End). AddsWriting c.self.inside.sides c.deliver.new.self (event_at s x.packet.stream (act.Deliver x.packet c.args.word) Done) c.args.page.now.packet c.deliver.new.buffer c.in_ok-length.length) c.other.ensures c.in_ok-length.ensures.added in
    let agree : events_of 0 c.self.inside.sides ≡ h = rw (sym c.self.view_is) at c.requires.agree in
    elim c.match-apply_emitted.branch [
      | in-Ok w ↦ rw w.result-is tt
      | in-Err w ↦ rw (w.result-is, sym c.self.view_is) (λ own.
          let right = right_after h c.self.inside.sides c.deliver.new.self e agree added.0 own in
          subst (λ (o : Option Event). StopsAs (checked h o) w.refusal.result) (sym (delivered h c.args.number c.args.word x found))
          (refused h e e w.in-Err.fault w.refusal.result c.event_count-place.result
          (replied_right h (other x.side) x.packet.stream (act.Deliver x.packet c.args.word) Done right) c.event_count-place.ensures.value
          (λ f. w.in-Err.ensures.wrong_reply (ap (λ (y : WorldFault). Err y) f))
          (λ f. not_none h c.args.number x found (w.in-Err.ensures.unsent.0 (ap (λ (y : WorldFault). Err y) f)))
          (λ f. subst (λ (o : Option Emission). IsRepeat h 0 c.args.word o) found (w.in-Err.ensures.repeat.0 (ap (λ (y : WorldFault). Err y) f)))
          w.refusal.ensures.memory w.refusal.ensures.repeat))
    ]
