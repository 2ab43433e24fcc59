use Rattle.std.proofs.Common.{◌∙◌, ap}
use Rattle.amo_live.specs.Host.{HostState}
use Rattle.amo_live.proofs.Wholeness.{host_learned, host_met}
use Rattle.amo_live.proofs.host.Host.meet.Goals as goal

pub invariant_of-self : goal.invariant_of-self
invariant_of-self g c =
    let h : HostState g.row.L.Denot g.row.S.Denot = record { side = c.self.inside.side; streams = c.self.inside.streams; book = c.self.inside.book; pass = c.self.inside.pass; other = c.self.inside.other; pump = c.self.inside.pump; link = c.self.inside.link; outbox = c.self.inside.outbox; journal = c.self.inside.journal; unanswered = c.self.inside.unanswered } in
    let met = c.meet.ensures in
    let t = host_met h c.meet.new.one c.meet.new.two c.self.invariant met.same met.met met.later met.no_others.0 met.right.1 in
    host_learned h c.meet.new.one c.meet.new.two c.self.invariant met.same.0 t.0

pub returns-clause-whole : goal.returns-clause-whole
returns-clause-whole g c =
    let h : HostState g.row.L.Denot g.row.S.Denot = record { side = c.self.inside.side; streams = c.self.inside.streams; book = c.self.inside.book; pass = c.self.inside.pass; other = c.self.inside.other; pump = c.self.inside.pump; link = c.self.inside.link; outbox = c.self.inside.outbox; journal = c.self.inside.journal; unanswered = c.self.inside.unanswered } in
    let met = c.meet.ensures in
    (host_met h c.meet.new.one c.meet.new.two c.self.invariant met.same met.met met.later met.no_others.0 met.right.1).1

pub returns-clause-same : goal.returns-clause-same
returns-clause-same g c =
    let h : HostState g.row.L.Denot g.row.S.Denot = record { side = c.self.inside.side; streams = c.self.inside.streams; book = c.self.inside.book; pass = c.self.inside.pass; other = c.self.inside.other; pump = c.self.inside.pump; link = c.self.inside.link; outbox = c.self.inside.outbox; journal = c.self.inside.journal; unanswered = c.self.inside.unanswered } in
    let met = c.meet.ensures in
    let t = host_met h c.meet.new.one c.meet.new.two c.self.invariant met.same met.met met.later met.no_others.0 met.right.1 in
    (λ i. let x : HostState g.row.L.Denot g.row.S.Denot = record h { pass = t.0 i; other = c.meet.new.one } in x)
    ∙ ap (λ (x : HostState g.row.L.Denot g.row.S.Denot). let y : HostState g.row.L.Denot g.row.S.Denot = record x { other = c.meet.new.one } in y) c.self.view_is
