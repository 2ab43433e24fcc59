use Rattle.std.proofs.Common.{◌≡◌, ◌∙◌, Some, refl, ap, rules, subst}
use Rattle.std.proofs.lemmas.Result.{on_ok_weaker}
use Rattle.std.specs.Prelude.{◌&&◌}
use Rattle.amo_live.specs.Service.{begins_to_send, is_in_doubt, shown_by, spelling_of, words_of}
use Rattle.amo_live.proofs.Ending.{said_to_send}
use Rattle.amo_live.proofs.Fresh.{bears_as, bears_on}
use Rattle.amo_packet.specs.Packet.{packet_of}
use Rattle.amo_live.proofs.Showing.{delivered_then, shows_as, shows_idle, undelivered_shows}
use Rattle.amo_live.specs.Host.{Delivered, HostState, IsWhole}
use Rattle.amo_live.specs.Shown.{told_ack}
use Rattle.amo_live.proofs.service.Service.deliver.Goals as goal

pub returns-clause-shown : goal.returns-clause-shown
returns-clause-shown g c =
    let first = c.args.self.now.host in
    let h : HostState g.row.L.Denot g.row.S.Denot = record first { other = c.end_by.new.self.host.other } in
    let m = c.deliver_anew.new.self.host in
    let looked : c.end_by.new.self.host ≡ h = ap (λ s. s.host) c.end_by.ensures.looked in
    let pass : c.arrive.new.self.host.pass ≡ m.pass = search rules in
    let same : shown_by c.arrive.new.self ≡ shown_by c.tell_ack.new.self = search rules in
    let spoken : spelling_of c.tell_settled.new.self ≡ spelling_of c.args.self.now = search rules in
    let spelling : spelling_of c.arrive.new.self ≡ spelling_of c.args.self.now = search rules in
    let did = c.in_ok-stream.ensures.delivered in
    let delivered = subst (λ (x : HostState g.row.L.Denot g.row.S.Denot). Delivered x m c.args.bytes.now did.0 (Some (c.in-Some.stream, c.in-Some.mode))) looked (rw c.in-Some.is at did.1) in
    let shown : shown_by c.deliver_anew.new.self ≡ shown_by c.args.self.now = search rules in
    let spelt : spelling_of c.deliver_anew.new.self ≡ spelling_of c.args.self.now = search rules in
    let met : IsWhole m.pass = subst IsWhole (ap (λ (x : HostState g.row.L.Denot g.row.S.Denot). x.pass) c.meet.ensures.same) c.meet.ensures.whole in
    delivered_then h m c.go_on.result (spelling_of c.args.self.now) (spelling_of c.arrive.new.self) c.args.bytes.now (packet_of c.in-Ok.packet) did.0 c.in-Some.stream c.in-Some.mode (is_in_doubt c.deliver_anew.new.self c.in-Some.stream && begins_to_send c.mode_of-before.result c.in-Some.mode) c.told_by_ack.result
    c.arrive.new.self.host.pass c.go_on.new.self.host.pass (shown_by c.args.self.now) (shown_by c.arrive.new.self) (shown_by c.go_on.new.self) c.in-Ok.ensures.found delivered
    (λ some. let known = said_to_send (is_in_doubt c.deliver_anew.new.self c.in-Some.stream) c.mode_of-before.result c.in-Some.mode some in (rw known.0 at c.mode_of-before.ensures.found, known.1))
    (λ some.
    let known = c.told_by_ack.ensures some in
    let told = c.in_ok-end.ensures.told (λ none. some (known.2 ∙ none)) in
    (rw known.0 at c.mode_of-before.ensures.found, known.1, (told.0, met, known.2 ∙ told.1))) pass (same ∙ (rw spoken at c.in_ok-tell_ack.ensures.told ∙ ap (told_ack (spelling_of c.args.self.now) c.in-Ok.packet.stream (packet_of c.in-Ok.packet).body c.told_by_ack.result) (rw (shown, spelt) at c.in_ok-tell_settled.ensures.told))) spelling
    c.go_on.ensures.shown

pub returns-clause-words : goal.returns-clause-words
returns-clause-words g c =
    let pass : c.arrive.new.self.host.pass ≡ c.deliver_anew.new.self.host.pass = search rules in
    let words : words_of c.arrive.new.self ≡ words_of c.deliver_anew.new.self = search rules in
    let old = words_of c.args.self.now in let first = c.args.self.now.host.pass in
    let looked : first ≡ c.end_by.new.self.host.pass = search rules in
    let kept : old ≡ words_of c.end_by.new.self = search rules in
    on_ok_weaker c.go_on.result (λ two. bears_on old (words_of c.arrive.new.self) (words_of c.go_on.new.self) first c.arrive.new.self.host.pass c.go_on.new.self.host.pass
    (bears_as (words_of c.end_by.new.self) (words_of c.deliver_anew.new.self) old (words_of c.arrive.new.self) c.end_by.new.self.host.pass c.deliver_anew.new.self.host.pass first c.arrive.new.self.host.pass kept words looked pass c.in_ok-stream.ensures.words) two)
    c.go_on.ensures.words

pub returns-in_default-2-clause-shown : goal.returns-in_default-2-clause-shown
returns-in_default-2-clause-shown g c =
    let did = c.in_ok-stream.ensures.delivered in
    let same : shown_by c.drop_idle.new.self ≡ shown_by c.args.self.now = search rules in
    let pass : c.drop_idle.new.self.host.pass ≡ c.deliver_anew.new.self.host.pass = search rules in
    let old = shown_by c.args.self.now in
    let spelling = spelling_of c.args.self.now in
    let first = c.end_by.new.self.host in
    let looked : c.args.self.now.host.pass ≡ first.pass = search rules in
    shows_as spelling spelling first.pass c.deliver_anew.new.self.host.pass c.args.self.now.host.pass c.drop_idle.new.self.host.pass old old old (shown_by c.drop_idle.new.self) refl looked pass refl same
    (undelivered_shows first c.deliver_anew.new.self.host spelling c.args.bytes.now did.0 old old (rw c.in_default-2.is at did.1) refl)

pub returns-in_default-clause-shown : goal.returns-in_default-clause-shown
returns-in_default-clause-shown g c =
    shows_idle (spelling_of c.args.self.now) c.args.self.now.host.pass c.miss.new.self.host.pass (shown_by c.args.self.now) (shown_by c.miss.new.self) (ap (λ h. h.pass) c.miss.ensures.host) c.miss.ensures.shown.0

pub returns-then-not-has-clause-shown : goal.returns-then-not-has-clause-shown
returns-then-not-has-clause-shown g c =
    let old = c.args.self.now in let new = c.drop_foreign.new.self in
    shows_idle (spelling_of old) old.host.pass new.host.pass (shown_by old) (shown_by new) (ap (λ s. s.host.pass) c.drop_foreign.ensures) (ap (λ s. shown_by s) c.drop_foreign.ensures)

pub returns-then-not-is_for-clause-shown : goal.returns-then-not-is_for-clause-shown
returns-then-not-is_for-clause-shown g c =
    let old = c.args.self.now in let new = c.drop_stray.new.self in
    shows_idle (spelling_of old) old.host.pass new.host.pass (shown_by old) (shown_by new) (ap (λ s. s.host.pass) c.drop_stray.ensures) (ap (λ s. shown_by s) c.drop_stray.ensures)
