use Rattle.std.proofs.Common.{◌≡◌, ◌∙◌, [], refl, rules, ap, sym}
use Rattle.std.specs.Io.KnownBytes.{Appends}
use Rattle.amo_lines.specs.Input.{Waits}
use Rattle.amo_desk.specs.Serving.{moment}
use Rattle.amo_book.specs.Pass.{PassState, mine}
use Rattle.amo_live.specs.Host.{HostState, puts_in}
use Rattle.amo_live.specs.Service.{shown_by, spelling_of, streams_of, words_of}
use Rattle.amo_live.specs.declared.service.Setup.{Setup}
use Rattle.amo_live.proofs.Fresh.{bears_as, bears_on}
use Rattle.amo_live.proofs.Showing.{shown_part, shows_after, shows_as}
use Rattle.amo_desk.proofs.Conserving.{serves_as, turn_over}
use Rattle.amo_desk.proofs.turns.turn.Goals as goal

pub returns-clause-serves : goal.returns-clause-serves
returns-clause-serves g c =
    let waits = c.in_ok-ready.ensures.waits in
    let synced : c.write_down.new.self.pass ≡ c.take_lines.new.service.host.pass = ap (λ (t : HostState g.row.L.Denot g.row.S.Denot). t.pass) c.in_ok-write_down.ensures.same in
    let cleared : c.hand_out.new.service.host.pass ≡ c.write_down.new.self.pass = search rules in
    let spelling : c.expect_more.new.self.spelling ≡ c.args.desk.now.spelling = search rules in
    let puts : c.expect_more.new.self.puts ≡ c.args.desk.now.puts = search rules in
    let kept : c.expect_more.new.self.kept ≡ c.args.desk.now.kept = search rules in
    let waiting : Waits c.args.desk.now.input c.expect_more.new.self.input waits.0 = search rules in
    let reader : c.hand_out.new.desk.reader ≡ c.wait.new.self.reader = search rules in
    let input : c.hand_out.new.desk.input ≡ c.take_lines.new.desk.input = search rules in
    let keeps : c.hand_out.new.desk.kept ≡ c.take_lines.new.desk.kept = search rules in
    let listened = c.wait.ensures.listened in
    let pass : c.wait.new.service.host.pass ≡ c.args.service.now.host.pass = ap (λ (t : HostState g.row.L.Denot g.row.S.Denot). t.pass) listened.0 in
    let streams : streams_of c.resend.new.self ≡ streams_of c.args.service.now = c.in_ok-resend.ensures.streams ∙ (c.in_ok-hear.ensures.streams ∙ listened.1) in
    let lines = serves_as c.args.desk.now.spelling c.args.desk.now.puts (streams_of c.args.service.now) c.expect_more.new.self.spelling c.expect_more.new.self.puts (streams_of c.resend.new.self) []
    (moment c.expect_more.new.self.input c.expect_more.new.self.kept c.resend.new.self.host.pass) (moment c.take_lines.new.desk.input c.take_lines.new.desk.kept c.take_lines.new.service.host.pass) spelling puts streams c.in_ok-take_lines.ensures.serves in (
      waits.0,
      rw reader waits.1,
      turn_over c.args.desk.now.spelling c.args.desk.now.puts (streams_of c.args.service.now) waits.0 c.args.desk.now.input c.expect_more.new.self.input c.take_lines.new.desk.input c.hand_out.new.desk.input
          c.args.desk.now.kept c.expect_more.new.self.kept c.take_lines.new.desk.kept c.hand_out.new.desk.kept c.args.service.now.host.pass c.resend.new.self.host.pass c.take_lines.new.service.host.pass c.hand_out.new.service.host.pass
          waiting kept (c.in_ok-resend.ensures.none_put ∙ (c.in_ok-hear.ensures.none_put ∙ ap (λ (v : PassState). puts_in (mine v)) pass)) lines input keeps (cleared ∙ synced),
    )

pub returns-clause-shown : goal.returns-clause-shown
returns-clause-shown g c =
    let spelling = spelling_of c.args.service.now in
    let v = c.args.service.now.host.pass in
    let old = shown_by c.args.service.now in
    let heard = shown_by c.hear.new.self in
    let resent = shown_by c.resend.new.self in
    let taken = shown_by c.take_lines.new.service in
    let waited = c.wait.new.service in
    let listened = c.wait.ensures.listened in
    let pass : waited.host.pass ≡ v = ap (λ (t : HostState g.row.L.Denot g.row.S.Denot). t.pass) listened.0 in
    let spelt : spelling_of waited ≡ spelling = ap (λ (setup : Setup). setup.spelling) listened.3 in
    let hears : spelling_of c.hear.new.self ≡ spelling = c.in_ok-hear.ensures.spelling ∙ spelt in
    let spells : spelling_of c.resend.new.self ≡ spelling = c.in_ok-resend.ensures.spelling ∙ hears in
    let to_heard = shows_as (spelling_of waited) spelling waited.host.pass c.hear.new.self.host.pass v c.hear.new.self.host.pass (shown_by waited) heard old heard (sym spelt) (sym pass) refl (sym listened.2) refl c.in_ok-hear.ensures.shown in
    let to_resend = shows_after spelling (spelling_of c.hear.new.self) v c.hear.new.self.host.pass c.resend.new.self.host.pass old heard resent hears to_heard c.in_ok-resend.ensures.shown in
    let to_lines = shows_after spelling (spelling_of c.resend.new.self) v c.resend.new.self.host.pass c.take_lines.new.service.host.pass old resent taken spells to_resend c.in_ok-take_lines.ensures.shown in
    let synced : c.write_down.new.self.pass ≡ c.take_lines.new.service.host.pass = ap (λ (t : HostState g.row.L.Denot g.row.S.Denot). t.pass) c.in_ok-write_down.ensures.same in
    let sent : c.hand_out.new.service.host.pass ≡ c.write_down.new.self.pass = search rules in
    let shown = c.in_ok-count.ensures.shown in
    let appends : Appends (g.O.Write.contents c.args.desk.now.output) (g.O.Write.contents c.hand_out.new.desk.output) shown.0 = search rules in
    shown_part spelling v c.take_lines.new.service.host.pass c.hand_out.new.service.host.pass old taken (shown_by c.hand_out.new.service) (g.O.Write.contents c.args.desk.now.output) (g.O.Write.contents c.hand_out.new.desk.output)
    shown.0 (sent ∙ synced) to_lines appends shown.2

pub returns-clause-words : goal.returns-clause-words
returns-clause-words g c =
    let first = words_of c.args.service.now in let v = c.args.service.now.host.pass in
    let heard = words_of c.hear.new.self in let resent = words_of c.resend.new.self in let taken = words_of c.take_lines.new.service in
    let waited = c.wait.new.service in
    let listened = c.wait.ensures.listened in
    let pass : waited.host.pass ≡ v = ap (λ (t : HostState g.row.L.Denot g.row.S.Denot). t.pass) listened.0 in
    let to_heard = bears_as (words_of waited) heard first heard waited.host.pass c.hear.new.self.host.pass v c.hear.new.self.host.pass (sym listened.4) refl (sym pass) refl c.in_ok-hear.ensures.words in
    let to_resend = bears_on first heard resent v c.hear.new.self.host.pass c.resend.new.self.host.pass to_heard c.in_ok-resend.ensures.words in
    let to_lines = bears_on first resent taken v c.resend.new.self.host.pass c.take_lines.new.service.host.pass to_resend c.in_ok-take_lines.ensures.words in
    let synced : c.write_down.new.self.pass ≡ c.take_lines.new.service.host.pass = ap (λ (t : HostState g.row.L.Denot g.row.S.Denot). t.pass) c.in_ok-write_down.ensures.same in
    let sent : c.hand_out.new.service.host.pass ≡ c.write_down.new.self.pass = search rules in
    bears_as first taken first (words_of c.hand_out.new.service) v c.take_lines.new.service.host.pass v c.hand_out.new.service.host.pass refl c.hand_out.ensures.words refl (sent ∙ synced) to_lines

pub returns-clause-unread : goal.returns-clause-unread
returns-clause-unread g c =
    let reader : c.hand_out.new.desk.reader ≡ c.wait.new.self.reader = search rules in
    λ shut. reader ∙ c.in_ok-ready.ensures.unread shut
