use Rattle.std.proofs.Common.{◌≡◌, Err, sym, ap, subst, rules}
use Rattle.amo_core.specs.declared.act.Act.{Act}
use Rattle.amo_core.specs.declared.reply.Reply.TheVariants.{Done}
use Rattle.amo_world.specs.declared.fault.WorldFault.{WorldFault}
use Rattle.amo_world.specs.Stream.{emission_of}
use Rattle.amo_world.specs.History.{stream_before, events_of, IsFresh}
use Rattle.amo_replay.specs.Transcript.{event_at}
use Rattle.amo_replay.specs.Sides.{AddsWriting}
use Rattle.amo_replay.proofs.Applying.{checked_event, refused}
use Rattle.amo_replay.proofs.Answering.{own_before, right_after, replied_right, writes_after, line_is, nothing_unsent}
use Rattle.amo_replay.proofs.hosts.BothHosts.act.Goals.{in-Ok, in-Err}
use Rattle.amo_replay.proofs.hosts.BothHosts.act.Goals as goal

pub returns-in_err-write_line-clause-own : goal.returns-in_err-write_line-clause-own
returns-in_err-write_line-clause-own c = rw (sym c.self.view_is) (own_before _ _ _ c.in_ok-reply.ensures.acted.0)

pub returns-clause-own : goal.returns-clause-own
returns-clause-own c = rw (sym c.self.view_is) (own_before _ _ _ c.in_ok-reply.ensures.acted.0)

pub returns-clause-applied : goal.returns-clause-applied
returns-clause-applied c =
    let h = c.self.inside.world in
    let a = c.args.act in
    let r = c.in_ok-reply.reply in
    let e = event_at c.args.side c.args.stream a r in
    let same : c.in_ok-copy.copy ≡ a = search rules in
    let acted : AddsWriting c.self.inside.sides c.act-2.new.self e c.args.page.now.packet c.act-2.new.buffer c.in_ok-reply.length =
    subst (λ (x : Act). AddsWriting c.self.inside.sides c.act-2.new.self (event_at c.args.side c.args.stream x r) c.args.page.now.packet c.act-2.new.buffer c.in_ok-reply.length) same c.in_ok-reply.ensures.acted in
    let agree : events_of 0 c.self.inside.sides ≡ h = rw (sym c.self.view_is) at c.requires.agree in
    elim c.match-apply.branch [
      | in-Ok w ↦ rw (w.result-is, sym c.self.view_is) (λ own.
          let right = right_after h c.self.inside.sides c.act-2.new.self e agree acted.0 own in (
            e,
            checked_event h (event_at c.args.side c.args.stream a Done) e (replied_right h c.args.side c.args.stream a r right) (subst IsFresh w.in-Ok.ensures.accepted w.in-Ok.ensures.sound.2).0,
            w.in-Ok.ensures.accepted,
            line_is h e _ (c.in_ok-write_line.ensures.text (emission_of (stream_before h e) e.side e.act) c.args.page.now.packet (writes_after h c.self.inside.sides c.act-2.new.self e c.args.page.now.packet c.act-2.new.buffer c.in_ok-reply.length agree acted own)),
          ))
      | in-Err w ↦ rw w.result-is tt
    ]

pub returns-clause-stopped : goal.returns-clause-stopped
returns-clause-stopped c =
    let h = c.self.inside.world in
    let a = c.args.act in
    let r = c.in_ok-reply.reply in
    let e = event_at c.args.side c.args.stream a r in
    let same : c.in_ok-copy.copy ≡ a = search rules in
    let acted : AddsWriting c.self.inside.sides c.act-2.new.self e c.args.page.now.packet c.act-2.new.buffer c.in_ok-reply.length =
    subst (λ (x : Act). AddsWriting c.self.inside.sides c.act-2.new.self (event_at c.args.side c.args.stream x r) c.args.page.now.packet c.act-2.new.buffer c.in_ok-reply.length) same c.in_ok-reply.ensures.acted in
    let agree : events_of 0 c.self.inside.sides ≡ h = rw (sym c.self.view_is) at c.requires.agree in
    elim c.match-apply.branch [
      | in-Ok w ↦ rw w.result-is tt
      | in-Err w ↦ rw (w.result-is, sym c.self.view_is) (λ own.
          let right = right_after h c.self.inside.sides c.act-2.new.self e agree acted.0 own in
          refused h (event_at c.args.side c.args.stream a Done) e w.in-Err.fault w.refusal.result c.event_count-number.result
          (replied_right h c.args.side c.args.stream a r right) c.event_count-number.ensures.value
          (λ f. w.in-Err.ensures.wrong_reply.0 (ap (λ (x : WorldFault). Err x) f) right)
          (λ f. (w.in-Err.ensures.unsent.0 (ap (λ (x : WorldFault). Err x) f)).1 (nothing_unsent h c.args.side c.args.stream a r c.requires.act))
          (λ f. (w.in-Err.ensures.repeat.0 (ap (λ (x : WorldFault). Err x) f)).2)
          w.refusal.ensures.memory w.refusal.ensures.repeat)
    ]
