use Rattle.std.proofs.Common.{◌<◌, length, inr, sym, subst}
use Rattle.amo_book.specs.Pass.{PassState, mine}
use Rattle.amo_core.specs.declared.mode.Mode.{Mode}
use Rattle.amo_host.specs.AtStream.{HasMode}
use Rattle.amo_live.specs.Due.{Resent}
use Rattle.amo_live.specs.Host.{HostState, HasLines, MayNotStart}
use Rattle.amo_live.specs.Noted.{Holds}
use Rattle.amo_live.proofs.Onwards.{begins_whole}
use Rattle.amo_live.proofs.Performing.{grows, happens, host_driven, host_pushed, host_unpushed}
use Rattle.amo_live.proofs.host.Host.note_act.Goals as goal

pub returns-in-Err-clause-begun : goal.returns-in-Err-clause-begun
returns-in-Err-clause-begun g c =
    let h : HostState g.row.L.Denot g.row.S.Denot = record { side = c.self.inside.side; streams = c.self.inside.streams; book = c.self.inside.book; pass = c.self.inside.pass; other = c.self.inside.other; pump = c.self.inside.pump; link = c.self.inside.link; outbox = c.self.inside.outbox; journal = c.self.inside.journal; unanswered = c.self.inside.unanswered } in
    let held : HasLines g.S.Sink.written h = subst (λ (t : HostState g.row.L.Denot g.row.S.Denot). HasLines g.S.Sink.written t) (sym c.self.view_is) c.requires.noted in
    begins_whole g.S.Sink.written h.journal (mine c.drive.new.pass) (subst (λ (p : PassState). Holds g.S.Sink.written h.journal (mine p)) (sym c.in-Err.ensures.failed) held)

pub invariant_of-self-in-Err-note_answer : goal.invariant_of-self-in-Err-note_answer
invariant_of-self-in-Err-note_answer g c =
    let h : HostState g.row.L.Denot g.row.S.Denot = record { side = c.self.inside.side; streams = c.self.inside.streams; book = c.self.inside.book; pass = c.self.inside.pass; other = c.self.inside.other; pump = c.self.inside.pump; link = c.self.inside.link; outbox = c.self.inside.outbox; journal = c.self.inside.journal; unanswered = c.self.inside.unanswered } in
    host_driven h c.drive.new.pump c.drive.new.pass c.self.invariant c.drive.ensures.side c.drive.ensures.station c.self.inside.room c.drive.new.out c.args.stream c.args.act c.in-Ok-Some.done (rw c.in-Ok-Some.field-0-is at c.in-Ok-Some.ensures.driven) c.note_answer.new.journal

pub returns-in-Err-note_answer-clause-begun : goal.returns-in-Err-note_answer-clause-begun
returns-in-Err-note_answer-clause-begun g c =
    let h : HostState g.row.L.Denot g.row.S.Denot = record { side = c.self.inside.side; streams = c.self.inside.streams; book = c.self.inside.book; pass = c.self.inside.pass; other = c.self.inside.other; pump = c.self.inside.pump; link = c.self.inside.link; outbox = c.self.inside.outbox; journal = c.self.inside.journal; unanswered = c.self.inside.unanswered } in
    let held : HasLines g.S.Sink.written h = subst (λ (t : HostState g.row.L.Denot g.row.S.Denot). HasLines g.S.Sink.written t) (sym c.self.view_is) c.requires.noted in
    let grown = grows h c.drive.new.pump c.drive.new.pass c.self.invariant c.drive.ensures.side c.drive.ensures.station c.self.inside.room c.drive.new.out c.args.stream c.args.act c.in-Ok-Some.done (rw c.in-Ok-Some.field-0-is at c.in-Ok-Some.ensures.driven) in
    c.in-Err-note_answer.ensures.begun h.pass c.drive.new.pass (sym c.number-pass.ensures.number) grown held

pub invariant_of-self-in_default-push : goal.invariant_of-self-in_default-push
invariant_of-self-in_default-push g c =
    let h : HostState g.row.L.Denot g.row.S.Denot = record { side = c.self.inside.side; streams = c.self.inside.streams; book = c.self.inside.book; pass = c.self.inside.pass; other = c.self.inside.other; pump = c.self.inside.pump; link = c.self.inside.link; outbox = c.self.inside.outbox; journal = c.self.inside.journal; unanswered = c.self.inside.unanswered } in
    host_unpushed h c.drive.new.pump c.drive.new.pass c.self.invariant c.drive.ensures.side c.drive.ensures.station c.self.inside.room c.drive.new.out c.args.stream c.args.act c.in-Ok-Some.done (rw c.in-Ok-Some.field-0-is at c.in-Ok-Some.ensures.driven) c.push.new.self c.note_answer.new.journal c.in_default-push.ensures.unchanged

pub returns-in_default-push-clause-begun : goal.returns-in_default-push-clause-begun
returns-in_default-push-clause-begun g c =
    let h : HostState g.row.L.Denot g.row.S.Denot = record { side = c.self.inside.side; streams = c.self.inside.streams; book = c.self.inside.book; pass = c.self.inside.pass; other = c.self.inside.other; pump = c.self.inside.pump; link = c.self.inside.link; outbox = c.self.inside.outbox; journal = c.self.inside.journal; unanswered = c.self.inside.unanswered } in
    let held : HasLines g.S.Sink.written h = subst (λ (t : HostState g.row.L.Denot g.row.S.Denot). HasLines g.S.Sink.written t) (sym c.self.view_is) c.requires.noted in
    let grown = grows h c.drive.new.pump c.drive.new.pass c.self.invariant c.drive.ensures.side c.drive.ensures.station c.self.inside.room c.drive.new.out c.args.stream c.args.act c.in-Ok-Some.done (rw c.in-Ok-Some.field-0-is at c.in-Ok-Some.ensures.driven) in
    begins_whole g.S.Sink.written c.note_answer.new.journal (mine c.drive.new.pass) (c.in-Ok.ensures.noted h.pass c.drive.new.pass (sym c.number-pass.ensures.number) grown held)

pub invariant_of-self-2 : goal.invariant_of-self-2
invariant_of-self-2 g c =
    let h : HostState g.row.L.Denot g.row.S.Denot = record { side = c.self.inside.side; streams = c.self.inside.streams; book = c.self.inside.book; pass = c.self.inside.pass; other = c.self.inside.other; pump = c.self.inside.pump; link = c.self.inside.link; outbox = c.self.inside.outbox; journal = c.self.inside.journal; unanswered = c.self.inside.unanswered } in
    let within : c.in-Some.place < length h.outbox.recent = subst (λ (t : HostState g.row.L.Denot g.row.S.Denot). c.in-Some.place < length t.outbox.recent) (sym c.self.view_is) c.in-Some.ensures.within.0 in
    host_pushed h c.drive.new.pump c.drive.new.pass c.self.invariant c.drive.ensures.side c.drive.ensures.station c.self.inside.room c.drive.new.out c.args.stream c.args.act c.in-Ok-Some.done (rw c.in-Ok-Some.field-0-is at c.in-Ok-Some.ensures.driven) c.push.new.self c.note_answer.new.journal c.in-Some.place c.is_answer-is_answer.result within c.in-Ok-push.ensures.leaving c.in-Ok-push.ensures.recent

pub returns-clause-did : goal.returns-clause-did
returns-clause-did g c =
    let h : HostState g.row.L.Denot g.row.S.Denot = record { side = c.self.inside.side; streams = c.self.inside.streams; book = c.self.inside.book; pass = c.self.inside.pass; other = c.self.inside.other; pump = c.self.inside.pump; link = c.self.inside.link; outbox = c.self.inside.outbox; journal = c.self.inside.journal; unanswered = c.self.inside.unanswered } in
    rw (← c.self.view_is) (happens h c.drive.new.pump c.drive.new.pass c.self.invariant c.drive.ensures.side c.drive.ensures.station c.self.inside.room c.drive.new.out c.args.stream c.args.act c.in-Ok-Some.done (rw c.in-Ok-Some.field-0-is at c.in-Ok-Some.ensures.driven) c.push.new.self c.note_answer.new.journal c.in-Ok-push.ensures.leaving)

pub returns-clause-noted : goal.returns-clause-noted
returns-clause-noted g c =
    let h : HostState g.row.L.Denot g.row.S.Denot = record { side = c.self.inside.side; streams = c.self.inside.streams; book = c.self.inside.book; pass = c.self.inside.pass; other = c.self.inside.other; pump = c.self.inside.pump; link = c.self.inside.link; outbox = c.self.inside.outbox; journal = c.self.inside.journal; unanswered = c.self.inside.unanswered } in
    let held : HasLines g.S.Sink.written h = subst (λ (t : HostState g.row.L.Denot g.row.S.Denot). HasLines g.S.Sink.written t) (sym c.self.view_is) c.requires.noted in
    let grown = grows h c.drive.new.pump c.drive.new.pass c.self.invariant c.drive.ensures.side c.drive.ensures.station c.self.inside.room c.drive.new.out c.args.stream c.args.act c.in-Ok-Some.done (rw c.in-Ok-Some.field-0-is at c.in-Ok-Some.ensures.driven) in
    c.in-Ok.ensures.noted h.pass c.drive.new.pass (sym c.number-pass.ensures.number) grown held

pub returns-clause-resent : goal.returns-clause-resent
returns-clause-resent g c = λ same.
    subst (λ (t : HostState g.row.L.Denot g.row.S.Denot). Resent c.args.now t.pump c.drive.new.pump c.args.stream c.in-Ok-Some.done.mode) c.self.view_is (rw c.in-Ok-Some.field-0-is at (c.in-Ok-Some.ensures.resent same))

pub returns-in-Ok-None-clause-waits : goal.returns-in-Ok-None-clause-waits
returns-in-Ok-None-clause-waits g c = λ begins.
    subst (λ (t : HostState g.row.L.Denot g.row.S.Denot). MayNotStart t c.args.stream) c.self.view_is (inr (inr (rw c.in-Ok-None.field-0-is at (c.in-Ok-None.ensures.waits begins))))

pub returns-clause-found : goal.returns-clause-found
returns-clause-found g c =
    let drives = rw c.in-Ok-Some.field-0-is at c.in-Ok-Some.ensures.driven in
    subst (λ (t : HostState g.row.L.Denot g.row.S.Denot). (known : Mode) × HasMode t.pump.host c.args.stream known) c.self.view_is (drives.0.mode, drives.4)
