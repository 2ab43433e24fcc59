use Rattle.std.proofs.Common.{◌≡◌, Some, sym, ap, refl, rules, subst, ◌∙◌}
use Rattle.amo_world.specs.History.{Extends}
use Rattle.amo_book.specs.Pass.{PassState, mine}
use Rattle.amo_live.specs.Callers.{IsSameLife, PutsAt}
use Rattle.amo_live.specs.Host.{HostState, IsNoted, puts_in}
use Rattle.amo_live.specs.declared.service.door.EventAt.{EventAt}
use Rattle.amo_live.proofs.Putting.{put_on}
use Rattle.amo_live.proofs.service.Service.put_for_caller.Goals as goal

pub returns-clause-put : goal.returns-clause-put
returns-clause-put g c =
    let asked = c.takes_put.new.self.host in
    let v = asked.pass in
    let u = c.put.new.self.pass in
    let y = c.begin.new.self.host.pass in
    let looked : v ≡ c.args.self.now.host.pass = search rules in
    let at : EventAt = record { position = c.in-Ok.position; line = c.next_line-line.result } in
    let grown = rw c.in-Ok.is at c.in_ok-position.ensures.put in
    let answered = rw c.in-Ok.is at c.in_ok-position.ensures.answered in
    let owed : c.owe.new.self.host.pass ≡ u = search rules in
    let none : puts_in (mine y) ≡ puts_in (mine u) = c.in_ok-begin.ensures.moved.0 ∙ ap (λ (p : PassState). puts_in (mine p)) owed in
    let more : Extends y.seen u.seen = subst (λ (p : PassState). Extends y.seen p.seen) owed c.in_ok-begin.ensures.shown.extends in
    let same : c.owe.new.self.host ≡ c.put.new.self = search rules in
    let life : IsSameLife u y c.put.new.self.journal c.begin.new.self.host.journal =
    subst (λ (h : HostState g.row.L.Denot g.row.S.Denot). IsSameLife h.pass y h.journal c.begin.new.self.host.journal) same c.begin.ensures.life in
    let host : asked ≡ record c.args.self.now.host { other = asked.other } = ap (λ s. s.host) c.takes_put.ensures.looked in
    let held : IsNoted g.S.Sink.written asked = subst (IsNoted g.S.Sink.written) (sym host) c.requires in
    let line : c.next_line-line.result ≡ asked.journal.next = search rules in
    subst (λ (p : PassState). PutsAt p y c.begin.new.self.host.journal c.args.stream c.args.message (Some at)) looked
    (put_on v u y asked.journal c.put.new.self.journal c.begin.new.self.host.journal c.args.stream c.args.message c.in-Ok.position at refl grown answered c.put.ensures.stays.0.journal held.0.next line none more life)
