use Rattle.std.proofs.Common.{◌≡◌, ℕ, ◌*◌, ◌<◌, List, sym, ap, ◌∙◌, subst, arith}
use Rattle.amo_world.specs.declared.event.Event.{Event}
use Rattle.amo_book.specs.Pass.{PassState, mine}
use Rattle.amo_live.specs.Host.{HostState, first_events, sides_from}
use Rattle.amo_journal.specs.declared.version.Version.{Version}
use Rattle.amo_live.specs.Noted.{IsSameJournal, opening}
use Rattle.amo_live.specs.Service.{new_version}
use Rattle.amo_live.specs.Standing.{standing_of}
use Rattle.amo_live.proofs.Lined.{all_stood}
use Rattle.amo_live.proofs.Onwards.{same_on}
use Rattle.amo_live.specs.Words.{words_in}
use Rattle.amo_live.proofs.Returning.{began_standing, first_back, first_bears_none, none_made}
use Rattle.amo_live.proofs.starting.start.Goals as goal
use Rattle.amo_live.proofs.starting.start.Goals.{then-lines-gt0+in_ok-come_back, else-lines-gt0}

pub returns-clause-back : goal.returns-clause-back
returns-clause-back g c =
    let sides = sides_from c.args.setup.side 1 c.args.setup.streams in
    let lines = c.args.place.lines in
    let kept = ap (λ (t : HostState g.row.L.Denot g.row.S.Denot). t.pass) (c.in_ok-new.ensures.host ∙ c.in_ok-write_down.ensures.same) in
    elim c.if-lines-gt0.branch [
      | then-lines-gt0+in_ok-come_back w ↦
          let some : 0 < lines = omega (arith, w.if-lines-gt0.true) in
          subst (λ (p : PassState). mine p ≡ first_events p.number sides lines) (sym (kept ∙ ap (λ (t : HostState g.row.L.Denot g.row.S.Denot). t.pass) w.host-is))
          (first_back c.in_ok-host.host w.come_back.new.self c.args.setup.side c.args.setup.streams c.args.link c.in_ok-journal.journal lines c.in_ok-host.ensures.opened w.in_ok-come_back.ensures.stays some w.in_ok-come_back.ensures.back)
      | else-lines-gt0 w ↦
          let none : 0 ≡ lines = omega (arith, w.if-lines-gt0.false) in
          let h = c.in_ok-host.host in
          subst (λ (p : PassState). mine p ≡ first_events p.number sides lines) (sym (kept ∙ ap (λ (t : HostState g.row.L.Denot g.row.S.Denot). t.pass) w.host-is))
          (none_made h c.args.setup.side c.args.setup.streams c.args.link c.in_ok-journal.journal c.in_ok-host.ensures.opened ∙ ap (λ (n : ℕ). first_events h.pass.number sides n) none)
    ]

pub returns-clause-standing : goal.returns-clause-standing
returns-clause-standing g c =
    let kept = ap (λ (t : HostState g.row.L.Denot g.row.S.Denot). t.pass) (c.in_ok-new.ensures.host ∙ c.in_ok-write_down.ensures.same) in
    let first : c.in_ok-host.host.pass.number ≡ 1 = c.in_ok-host.ensures.opened.number in
    let number : c.if-lines-gt0.host.pass.number ≡ 1 = elim c.if-lines-gt0.branch [
      | then-lines-gt0+in_ok-come_back w ↦ ap (λ (t : HostState g.row.L.Denot g.row.S.Denot). t.pass.number) w.host-is ∙ (w.in_ok-come_back.ensures.stays.number ∙ first)
      | else-lines-gt0 w ↦ ap (λ (t : HostState g.row.L.Denot g.row.S.Denot). t.pass.number) w.host-is ∙ first
    ] in
    began_standing _ c.args.setup.side c.args.setup.streams c.args.place.lines c.args.place.back _ (ap (λ (p : PassState). p.number) kept ∙ number) (returns-clause-back g c)

pub returns-clause-journal : goal.returns-clause-journal
returns-clause-journal g c =
    let sink = c.args.sink in
    let read = c.args.place in
    let journal = c.in_ok-journal.journal in
    let standing = 2 * standing_of read c.args.setup.streams in
    let first = opening (new_version c.args.setup) read.version read.lines standing sink in
    let opened : IsSameJournal first journal =
    subst (λ (v : Version). IsSameJournal (opening v read.version read.lines standing sink) journal) c.new_version-version.ensures
    (subst (λ (n : ℕ). IsSameJournal (opening c.new_version-version.result read.version read.lines (2 * n) sink) journal) c.standing-standing.ensures c.in_ok-journal.ensures.opened) in
    let before : IsSameJournal first c.in_ok-host.host.journal = subst (IsSameJournal first) (sym c.in_ok-host.ensures.opened.journal_is) opened in
    let back : IsSameJournal first c.if-lines-gt0.host.journal = elim c.if-lines-gt0.branch [
      | then-lines-gt0+in_ok-come_back w ↦
          subst (λ (t : HostState g.row.L.Denot g.row.S.Denot). IsSameJournal first t.journal) (sym w.host-is)
          (same_on first c.in_ok-host.host.journal w.come_back.new.self.journal before w.in_ok-come_back.ensures.stays.journal)
      | else-lines-gt0 w ↦ subst (λ (t : HostState g.row.L.Denot g.row.S.Denot). IsSameJournal first t.journal) (sym w.host-is) before
    ] in
    subst (λ (t : HostState g.row.L.Denot g.row.S.Denot). IsSameJournal first t.journal) (sym c.in_ok-new.ensures.host)
    (same_on first c.if-lines-gt0.host.journal c.write_down.new.self.journal back c.in_ok-write_down.ensures.journal)

pub returns-clause-unborne : goal.returns-clause-unborne
returns-clause-unborne g c =
    ap (λ (l : List Event). words_in l) (returns-clause-back g c) ∙ first_bears_none _ (sides_from c.args.setup.side 1 c.args.setup.streams) c.args.place.lines

pub returns-clause-stood : goal.returns-clause-stood
returns-clause-stood g c =
    let read = c.args.place in
    all_stood _ (new_version c.args.setup) read.version read.lines (standing_of read c.args.setup.streams) c.args.sink c.args.setup.side _ (returns-clause-journal g c) (returns-clause-standing g c)
