use Rattle.std.proofs.Common.{◌∙◌, [], ap}
use Rattle.amo_live.specs.Host.{HostState}
use Rattle.amo_live.proofs.Wholeness.{host_met, host_sent}
use Rattle.amo_live.proofs.host.Host.send.Goals as goal

pub invariant_of-self : goal.invariant_of-self
invariant_of-self g c =
    let h : HostState g.row.L.Denot g.row.S.Denot = record { side = c.self.inside.side; streams = c.self.inside.streams; book = c.self.inside.book; pass = c.self.inside.pass; other = c.self.inside.other; pump = c.self.inside.pump; link = c.self.inside.link; outbox = c.self.inside.outbox; journal = c.self.inside.journal; unanswered = c.self.inside.unanswered } in
    let met = c.meet.ensures in
    let t = host_met h c.meet.new.one c.meet.new.two c.self.invariant met.same met.met met.later met.no_others.0 met.right.1 in
    host_sent h c.meet.new.one c.meet.new.two c.send-failed.new.self c.send-failed.new.link c.self.invariant met.same.0 t.0 c.send-failed.ensures.none

pub returns-clause-whole : goal.returns-clause-whole
returns-clause-whole g c =
    let h : HostState g.row.L.Denot g.row.S.Denot = record { side = c.self.inside.side; streams = c.self.inside.streams; book = c.self.inside.book; pass = c.self.inside.pass; other = c.self.inside.other; pump = c.self.inside.pump; link = c.self.inside.link; outbox = c.self.inside.outbox; journal = c.self.inside.journal; unanswered = c.self.inside.unanswered } in
    let met = c.meet.ensures in
    (host_met h c.meet.new.one c.meet.new.two c.self.invariant met.same met.met met.later met.no_others.0 met.right.1).1

pub returns-clause-sent : goal.returns-clause-sent
returns-clause-sent g c =
    let h : HostState g.row.L.Denot g.row.S.Denot = record { side = c.self.inside.side; streams = c.self.inside.streams; book = c.self.inside.book; pass = c.self.inside.pass; other = c.self.inside.other; pump = c.self.inside.pump; link = c.self.inside.link; outbox = c.self.inside.outbox; journal = c.self.inside.journal; unanswered = c.self.inside.unanswered } in
    let met = c.meet.ensures in
    let t = host_met h c.meet.new.one c.meet.new.two c.self.invariant met.same met.met met.later met.no_others.0 met.right.1 in
    (λ i. let x : HostState g.row.L.Denot g.row.S.Denot = record h { pass = t.0 i; other = c.meet.new.one; link = c.send-failed.new.link; outbox = c.send-failed.ensures.none i } in x)
    ∙ ap (λ (x : HostState g.row.L.Denot g.row.S.Denot). let y : HostState g.row.L.Denot g.row.S.Denot = record x { other = c.meet.new.one; link = c.send-failed.new.link; outbox = record x.outbox { leaving = [] } } in y) c.self.view_is
