use Rattle.std.proofs.Common.{◌≡◌, ◌∙◌, refl, sym, ap, subst}
use Rattle.amo_live.specs.Host.{IsNoted}
use Rattle.amo_live.specs.Service.{shown_by, spelling_of, streams_of, words_of}
use Rattle.amo_live.proofs.Fresh.{bears_as}
use Rattle.amo_live.proofs.Putting.{moves_to, start_moves}
use Rattle.amo_live.proofs.Showing.{shows_as, start_shows}
use Rattle.amo_live.proofs.service.Service.begin_next.Goals as goal

pub returns-clause-noted : goal.returns-clause-noted
returns-clause-noted g c =
    subst (IsNoted g.S.Sink.written) (sym c.note_start.ensures.host) c.in_ok-started.ensures.noted

pub returns-clause-streams : goal.returns-clause-streams
returns-clause-streams g c = c.note_start.ensures.streams ∙ ap streams_of c.start_anew.ensures.same

pub returns-clause-spelling : goal.returns-clause-spelling
returns-clause-spelling g c = ap (λ s. s.spelling) c.note_start.ensures.shown.1 ∙ ap spelling_of c.start_anew.ensures.same

pub returns-clause-shown : goal.returns-clause-shown
returns-clause-shown g c =
    let pass : c.note_start.new.self.host.pass ≡ c.start_anew.new.self.host.pass = ap (λ h. h.pass) c.note_start.ensures.host in
    let shown : shown_by c.note_start.new.self ≡ shown_by c.args.self.now = c.note_start.ensures.shown.0 ∙ ap shown_by c.start_anew.ensures.same in
    let spelling = spelling_of c.args.self.now in
    let old = shown_by c.args.self.now in
    let new = shown_by c.note_start.new.self in
    let did = c.in_ok-started.ensures.did in
    shows_as spelling spelling c.args.self.now.host.pass c.start_anew.new.self.host.pass c.args.self.now.host.pass c.note_start.new.self.host.pass old new old new refl refl pass refl refl
    (start_shows c.args.self.now.host c.start_anew.new.self.host spelling c.args.stream did.0 c.args.self.now.setup.batch c.args.self.now.host.journal.version c.in_ok-started.started old new did.1 shown)

pub returns-clause-moved : goal.returns-clause-moved
returns-clause-moved g c =
    let pass : c.note_start.new.self.host.pass ≡ c.start_anew.new.self.host.pass = ap (λ h. h.pass) c.note_start.ensures.host in
    let did = c.in_ok-started.ensures.did in
    moves_to c.args.self.now.host.pass c.start_anew.new.self.host.pass c.note_start.new.self.host.pass pass
    (start_moves c.args.self.now.host c.start_anew.new.self.host c.args.stream did.0 c.args.self.now.setup.batch c.args.self.now.host.journal.version c.in_ok-started.started did.1)

pub returns-clause-words : goal.returns-clause-words
returns-clause-words g c =
    let pass : c.note_start.new.self.host.pass ≡ c.start_anew.new.self.host.pass = ap (λ h. h.pass) c.note_start.ensures.host in
    let words : words_of c.note_start.new.self ≡ words_of c.start_anew.new.self = c.note_start.ensures.words in
    let old = words_of c.args.self.now in
    bears_as old (words_of c.start_anew.new.self) old (words_of c.note_start.new.self) c.args.self.now.host.pass c.start_anew.new.self.host.pass c.args.self.now.host.pass c.note_start.new.self.host.pass refl words refl pass c.in_ok-started.ensures.words
