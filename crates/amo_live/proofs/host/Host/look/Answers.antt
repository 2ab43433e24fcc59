use Rattle.std.proofs.Common.{◌≡◌, List, ap, subst, ◌∙◌}
use Rattle.amo_core.specs.Summary.{summary_of}
use Rattle.amo_object.specs.declared.step.End.{End}
use Rattle.amo_world.specs.declared.event.Event.{Event}
use Rattle.amo_book.specs.Pass.{automaton_after}
use Rattle.amo_live.specs.Host.{HostState}
use Rattle.amo_live.proofs.Wholeness.{host_learned, host_looked}
use Rattle.amo_live.proofs.host.Host.look.Goals as goal

pub invariant_of-self : goal.invariant_of-self
invariant_of-self g c =
    let h : HostState g.row.L.Denot g.row.S.Denot = record { side = c.self.inside.side; streams = c.self.inside.streams; book = c.self.inside.book; pass = c.self.inside.pass; other = c.self.inside.other; pump = c.self.inside.pump; link = c.self.inside.link; outbox = c.self.inside.outbox; journal = c.self.inside.journal; unanswered = c.self.inside.unanswered } in
    let met = c.meet.ensures in
    let stands = (rw c.in-Ok-Some.field-0-is at c.in-Ok-Some.ensures.found).1 in
    let t = host_looked h c.meet.new.one c.look.new.pass c.meet.new.two c.self.invariant stands.same stands.extends met.same met.met met.later met.no_others.0 met.right.1 in
    host_learned h c.meet.new.one c.meet.new.two c.self.invariant met.same.0 t.0

pub returns-in-Ok-Some-clause-stands : goal.returns-in-Ok-Some-clause-stands
returns-in-Ok-Some-clause-stands g c =
    let h : HostState g.row.L.Denot g.row.S.Denot = record { side = c.self.inside.side; streams = c.self.inside.streams; book = c.self.inside.book; pass = c.self.inside.pass; other = c.self.inside.other; pump = c.self.inside.pump; link = c.self.inside.link; outbox = c.self.inside.outbox; journal = c.self.inside.journal; unanswered = c.self.inside.unanswered } in
    let met = c.meet.ensures in
    let stands = (rw c.in-Ok-Some.field-0-is at c.in-Ok-Some.ensures.found).1 in
    let t = host_looked h c.meet.new.one c.look.new.pass c.meet.new.two c.self.invariant stands.same stands.extends met.same met.met met.later met.no_others.0 met.right.1 in
    let seen = subst (λ (past : List Event). c.in-Ok-Some.summary ≡ summary_of (automaton_after h.pump.host.side c.args.stream past)) t.1.0 stands.tells in
    let here = subst (λ (side : End). c.in-Ok-Some.summary ≡ summary_of (automaton_after side c.args.stream h.pass.seen)) c.self.invariant.side seen in
    subst (λ (x : HostState g.row.L.Denot g.row.S.Denot). c.in-Ok-Some.summary ≡ summary_of (automaton_after x.side c.args.stream x.pass.seen)) c.self.view_is here

pub returns-in-Ok-Some-clause-whole : goal.returns-in-Ok-Some-clause-whole
returns-in-Ok-Some-clause-whole g c =
    let h : HostState g.row.L.Denot g.row.S.Denot = record { side = c.self.inside.side; streams = c.self.inside.streams; book = c.self.inside.book; pass = c.self.inside.pass; other = c.self.inside.other; pump = c.self.inside.pump; link = c.self.inside.link; outbox = c.self.inside.outbox; journal = c.self.inside.journal; unanswered = c.self.inside.unanswered } in
    let met = c.meet.ensures in
    let stands = (rw c.in-Ok-Some.field-0-is at c.in-Ok-Some.ensures.found).1 in
    let t = host_looked h c.meet.new.one c.look.new.pass c.meet.new.two c.self.invariant stands.same stands.extends met.same met.met met.later met.no_others.0 met.right.1 in
    t.1.1

pub returns-in-Ok-Some-clause-same : goal.returns-in-Ok-Some-clause-same
returns-in-Ok-Some-clause-same g c =
    let h : HostState g.row.L.Denot g.row.S.Denot = record { side = c.self.inside.side; streams = c.self.inside.streams; book = c.self.inside.book; pass = c.self.inside.pass; other = c.self.inside.other; pump = c.self.inside.pump; link = c.self.inside.link; outbox = c.self.inside.outbox; journal = c.self.inside.journal; unanswered = c.self.inside.unanswered } in
    let met = c.meet.ensures in
    let stands = (rw c.in-Ok-Some.field-0-is at c.in-Ok-Some.ensures.found).1 in
    let t = host_looked h c.meet.new.one c.look.new.pass c.meet.new.two c.self.invariant stands.same stands.extends met.same met.met met.later met.no_others.0 met.right.1 in
    (λ i. let x : HostState g.row.L.Denot g.row.S.Denot = record h { pass = t.0 i; other = c.meet.new.one } in x)
    ∙ ap (λ (x : HostState g.row.L.Denot g.row.S.Denot). let y : HostState g.row.L.Denot g.row.S.Denot = record x { other = c.meet.new.one } in y) c.self.view_is
