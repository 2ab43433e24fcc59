use Rattle.std.proofs.Common.{◌≡◌, Some, ap, refl, rules, subst, sym, ◌∙◌}
use Rattle.amo_object.specs.declared.step.End.TheVariants.{Receiver}
use Rattle.amo_core.specs.declared.act.Act.TheVariants as act
use Rattle.amo_book.specs.Pass.{PassState}
use Rattle.amo_live.specs.Callers.{Gets}
use Rattle.amo_live.specs.Host.{HostState, IsNoted}
use Rattle.amo_live.specs.Service.{words_of}
use Rattle.amo_live.specs.declared.service.door.EventAt.{EventAt}
use Rattle.amo_live.specs.Words.{BearsNew}
use Rattle.amo_live.proofs.Fresh.{bears_as, bears_none, bears_on, call_bears, resend_bears}
use Rattle.amo_live.proofs.Lined.{stays_alive}
use Rattle.amo_live.proofs.Getting.{got_on, resend_extends, resend_gets, was_got}
use Rattle.amo_live.proofs.service.Service.get_for_caller.Goals as goal
use Rattle.amo_live.proofs.service.Service.get_for_caller.Goals.{then-held-eq0+in_ok-resend, else-held-eq0}

pub returns-clause-words : goal.returns-clause-words
returns-clause-words g c =
    let (answer, grown, placed, got) = c.in_ok-message.ensures.got in
    let old = words_of c.args.self.now in let new = words_of c.if-held-eq0.self in
    let first = c.gives_message.new.self.host.pass in
    let looked : c.args.self.now.host.pass ≡ first = search rules in
    let kept = c.set_lane.new.self.host.pass in
    let same : kept ≡ c.get.new.self.pass = search rules in
    let none : BearsNew g.W.Lineage.is_drawn old old first kept = bears_as old old old old first c.get.new.self.pass first kept refl refl refl same
    (bears_none old old first c.get.new.self.pass refl (call_bears first c.get.new.self.pass Receiver c.args.stream act.Get answer refl grown)) in
    elim c.if-held-eq0.branch [
      | then-held-eq0+in_ok-resend w ↦
          let words : new ≡ old = search rules in
          let sent : c.if-held-eq0.self.host.pass ≡ w.resend.new.self.pass = search rules in
          bears_as old old old new first w.resend.new.self.pass c.args.self.now.host.pass c.if-held-eq0.self.host.pass refl words looked sent
          (bears_on old old old first kept w.resend.new.self.pass none
          (bears_none old old kept w.resend.new.self.pass refl (resend_bears c.set_lane.new.self.host w.resend.new.self c.args.stream w.in_ok-resend.field-0 w.in_ok-resend.ensures.did)))
      | else-held-eq0 w ↦
          let words : new ≡ old = search rules in
          let sent : c.if-held-eq0.self.host.pass ≡ kept = search rules in
          bears_as old old old new first kept c.args.self.now.host.pass c.if-held-eq0.self.host.pass refl words looked sent none
    ]

pub returns-clause-got : goal.returns-clause-got
returns-clause-got g c =
    let (answer, grown, placed, got) = c.in_ok-message.ensures.got in
    let asked = c.gives_message.new.self.host in
    let v = asked.pass in
    let u = c.get.new.self in
    let looked : v ≡ c.args.self.now.host.pass = search rules in
    let kept = c.set_lane.new.self.host in
    let x = c.if-held-eq0.self.host in
    let message = c.in-Some-2.message in
    let at : EventAt = record { position = c.in-Some-2.position; line = c.next_line-line.result } in
    let same : kept ≡ u = search rules in
    let host : asked ≡ record c.args.self.now.host { other = asked.other } = ap (λ s. s.host) c.gives_message.ensures.looked in
    let held : IsNoted g.S.Sink.written asked = subst (IsNoted g.S.Sink.written) (sym host) c.requires in
    let line : c.next_line-line.result ≡ asked.journal.next = search rules in
    let one : Gets v kept.pass kept.journal c.args.stream (Some (message, at)) =
    subst (λ (h : HostState g.row.L.Denot g.row.S.Denot). Gets v h.pass h.journal c.args.stream (Some (message, at))) (sym same)
    (was_got v u.pass asked.journal u.journal c.args.stream message at answer (sym c.in-Some-2.is ∙ got) grown placed c.get.ensures.stays.0.journal held.0.next line) in
    subst (λ (p : PassState). Gets p x.pass x.journal c.args.stream (Some (message, at))) looked (elim c.if-held-eq0.branch [
      | then-held-eq0+in_ok-resend w ↦
          let again = w.resend.new.self in
          let sent : x ≡ again = search rules in
          let did = w.in_ok-resend.ensures.did in
          let none = resend_gets kept again c.args.stream w.in_ok-resend.field-0 did in
          let more = resend_extends kept again c.args.stream w.in_ok-resend.field-0 did in
          let life = stays_alive kept again w.resend.ensures.stays in
          subst (λ (h : HostState g.row.L.Denot g.row.S.Denot). Gets v h.pass h.journal c.args.stream (Some (message, at))) (sym sent) (got_on v kept.pass again.pass kept.journal again.journal c.args.stream message at none more life one)
      | else-held-eq0 w ↦
          let sent : x ≡ kept = search rules in
          subst (λ (h : HostState g.row.L.Denot g.row.S.Denot). Gets v h.pass h.journal c.args.stream (Some (message, at))) (sym sent) one
    ])
