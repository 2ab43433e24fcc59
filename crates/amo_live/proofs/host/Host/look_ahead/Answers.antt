use Rattle.std.proofs.Common.{◌<◌, Some, None, take, length, refl, sym, subst}
use Rattle.amo_book.specs.declared.foresee.Foreseen.TheVariants.{Changes, Keeps}
use Rattle.amo_book.specs.Foresee.{Foresees}
use Rattle.amo_live.specs.Emitted.{OutboxState}
use Rattle.amo_live.specs.Host.{HostState, IsHost}
use Rattle.amo_live.proofs.Emissions.{host_repeated, host_seen, looks_none, looks_some}
use Rattle.amo_live.proofs.Performing.{foretold_sees, held_foreseen, own_side}
use Rattle.amo_live.proofs.host.Host.look_ahead.Goals as goal

pub invariant_of-self : goal.invariant_of-self
invariant_of-self g c =
    let h : HostState g.row.L.Denot g.row.S.Denot = record { side = c.self.inside.side; streams = c.self.inside.streams; book = c.self.inside.book; pass = c.self.inside.pass; other = c.self.inside.other; pump = c.self.inside.pump; link = c.self.inside.link; outbox = c.self.inside.outbox; journal = c.self.inside.journal; unanswered = c.self.inside.unanswered } in
    let told = rw c.in-Ok-Some-Keeps-None.field-0-is at c.in-Ok-Some-Keeps-None.ensures.foretold in
    host_seen h c.foresee.new.pass c.self.invariant told.4.same told.4.extends

pub invariant_of-self-in_default-repeat : goal.invariant_of-self-in_default-repeat
invariant_of-self-in_default-repeat g c =
    let h : HostState g.row.L.Denot g.row.S.Denot = record { side = c.self.inside.side; streams = c.self.inside.streams; book = c.self.inside.book; pass = c.self.inside.pass; other = c.self.inside.other; pump = c.self.inside.pump; link = c.self.inside.link; outbox = c.self.inside.outbox; journal = c.self.inside.journal; unanswered = c.self.inside.unanswered } in
    let told = rw c.in-Ok-Some-Keeps-Some.field-0-is at c.in-Ok-Some-Keeps-Some.ensures.foretold in
    subst (λ (o : OutboxState). IsHost (record h { pass = c.foresee.new.pass; outbox = o })) (sym c.in_default-repeat.ensures.unchanged) (host_seen h c.foresee.new.pass c.self.invariant told.4.same told.4.extends)

pub invariant_of-self-in-Some-foresee-4 : goal.invariant_of-self-in-Some-foresee-4
invariant_of-self-in-Some-foresee-4 g c =
    let h : HostState g.row.L.Denot g.row.S.Denot = record { side = c.self.inside.side; streams = c.self.inside.streams; book = c.self.inside.book; pass = c.self.inside.pass; other = c.self.inside.other; pump = c.self.inside.pump; link = c.self.inside.link; outbox = c.self.inside.outbox; journal = c.self.inside.journal; unanswered = c.self.inside.unanswered } in
    let told = rw c.in-Ok-Some-Keeps-Some.field-0-is at c.in-Ok-Some-Keeps-Some.ensures.foretold in
    let within : c.in-Some.place < length h.outbox.recent = subst (λ (t : HostState g.row.L.Denot g.row.S.Denot). c.in-Some.place < length t.outbox.recent) (sym c.self.view_is) c.in-Some.ensures.within.0 in
    host_repeated h c.repeat.new.self c.foresee.new.pass c.in-Some.place (take c.in-Ok-Some-Keeps-Some.count c.foresee.new.out) c.in-Ok.known c.self.invariant told.4.same told.4.extends within
    c.in-Ok.ensures.again c.in-Ok.ensures.known c.in-Ok.ensures.other c.repeat.ensures.recent

pub invariant_of-self-in-Changes-1 : goal.invariant_of-self-in-Changes-1
invariant_of-self-in-Changes-1 g c =
    let h : HostState g.row.L.Denot g.row.S.Denot = record { side = c.self.inside.side; streams = c.self.inside.streams; book = c.self.inside.book; pass = c.self.inside.pass; other = c.self.inside.other; pump = c.self.inside.pump; link = c.self.inside.link; outbox = c.self.inside.outbox; journal = c.self.inside.journal; unanswered = c.self.inside.unanswered } in
    let sees = foretold_sees h.pump c.args.stream c.args.act.now h.pass c.foresee.new.pass c.self.inside.room c.foresee.new.out _ c.in-Ok-Some-Changes.ensures.foretold in
    host_seen h c.foresee.new.pass c.self.invariant sees.same sees.extends

pub returns-in-Ok-Some-Keeps-None-clause-looks : goal.returns-in-Ok-Some-Keeps-None-clause-looks
returns-in-Ok-Some-Keeps-None-clause-looks g c =
    let h : HostState g.row.L.Denot g.row.S.Denot = record { side = c.self.inside.side; streams = c.self.inside.streams; book = c.self.inside.book; pass = c.self.inside.pass; other = c.self.inside.other; pump = c.self.inside.pump; link = c.self.inside.link; outbox = c.self.inside.outbox; journal = c.self.inside.journal; unanswered = c.self.inside.unanswered } in
    let told = rw c.in-Ok-Some-Keeps-None.field-0-is at c.in-Ok-Some-Keeps-None.ensures.foretold in
    let foreseen : Foresees h.pass c.foresee.new.pass told.1 c.args.act.now _ c.foresee.new.out (Keeps None) = rw c.in-Ok-Some-Keeps-None.field-0-0-0-is at (rw c.in-Ok-Some-Keeps-None.field-0-0-is at told.4) in
    rw (← c.self.view_is) (looks_none h (record h { pass = c.foresee.new.pass }) c.args.stream told.1 c.args.act.now _ c.foresee.new.out (own_side h c.self.invariant told.0 told.1 told.2) told.3 foreseen refl)

pub returns-in-Ok-clause-looks : goal.returns-in-Ok-clause-looks
returns-in-Ok-clause-looks g c =
    let h : HostState g.row.L.Denot g.row.S.Denot = record { side = c.self.inside.side; streams = c.self.inside.streams; book = c.self.inside.book; pass = c.self.inside.pass; other = c.self.inside.other; pump = c.self.inside.pump; link = c.self.inside.link; outbox = c.self.inside.outbox; journal = c.self.inside.journal; unanswered = c.self.inside.unanswered } in
    let told = rw c.in-Ok-Some-Keeps-Some.field-0-is at c.in-Ok-Some-Keeps-Some.ensures.foretold in
    let foreseen : Foresees h.pass c.foresee.new.pass told.1 c.args.act.now _ c.foresee.new.out (Keeps (Some c.in-Ok-Some-Keeps-Some.count)) = rw c.in-Ok-Some-Keeps-Some.field-0-0-0-is at (rw c.in-Ok-Some-Keeps-Some.field-0-0-is at told.4) in
    let within : c.in-Some.place < length h.outbox.recent = subst (λ (t : HostState g.row.L.Denot g.row.S.Denot). c.in-Some.place < length t.outbox.recent) (sym c.self.view_is) c.in-Some.ensures.within.0 in
    rw (← c.self.view_is)
    (looks_some h (record h { pass = c.foresee.new.pass; outbox = c.repeat.new.self }) c.args.stream told.1 c.args.act.now _ c.foresee.new.out c.in-Ok-Some-Keeps-Some.count c.in-Some.place c.in-Ok.known (own_side h c.self.invariant told.0 told.1 told.2) told.3 foreseen
    c.self.invariant.emitted within c.in-Ok.ensures.again c.in-Ok.ensures.known c.in-Ok.ensures.other c.repeat.ensures.recent)

pub returns-in-Ok-Some-Changes-clause-held : goal.returns-in-Ok-Some-Changes-clause-held
returns-in-Ok-Some-Changes-clause-held g c =
    let h : HostState g.row.L.Denot g.row.S.Denot = record { side = c.self.inside.side; streams = c.self.inside.streams; book = c.self.inside.book; pass = c.self.inside.pass; other = c.self.inside.other; pump = c.self.inside.pump; link = c.self.inside.link; outbox = c.self.inside.outbox; journal = c.self.inside.journal; unanswered = c.self.inside.unanswered } in
    let told = rw c.in-Ok-Some-Changes.field-0-is at c.in-Ok-Some-Changes.ensures.foretold in
    let foreseen : Foresees h.pass c.foresee.new.pass told.1 c.args.act.now _ c.foresee.new.out (Changes c.in-Ok-Some-Changes.summary) = rw c.in-Ok-Some-Changes.field-0-0-is at told.4 in
    held_foreseen h c.foresee.new.pass c.self.invariant c.args.stream told.0 told.1 told.2 told.3 c.in-Ok-Some-Changes.summary foreseen.tells.2
