use Rattle.std.proofs.Common.{sym, subst}
use Rattle.amo_object.specs.declared.step.End.TheVariants.{Sender}
use Rattle.amo_core.specs.declared.act.Act.TheVariants as act
use Rattle.amo_book.specs.Calls.{ack_answer}
use Rattle.amo_book.specs.Pass.{Answer, Grown}
use Rattle.amo_live.specs.Host.{HostState, IsNoted}
use Rattle.amo_live.proofs.Emissions.{host_called}
use Rattle.amo_live.proofs.NotedLines.{ack_noted}
use Rattle.amo_live.proofs.Suiting.{ack_spelt}
use Rattle.amo_live.proofs.host.Host.get_ack.Goals as goal

pub note_answer-requires-clause-spelt : goal.note_answer-requires-clause-spelt
note_answer-requires-clause-spelt g c = ack_spelt c.self.inside.journal.version c.args.stream c.get_ack-answer.result c.reply_to_ack-known.result c.reply_to_ack-known.ensures

pub returns-in-Err-clause-begun : goal.returns-in-Err-clause-begun
returns-in-Err-clause-begun g c =
    let h : HostState g.row.L.Denot g.row.S.Denot = record { side = c.self.inside.side; streams = c.self.inside.streams; book = c.self.inside.book; pass = c.self.inside.pass; other = c.self.inside.other; pump = c.self.inside.pump; link = c.self.inside.link; outbox = c.self.inside.outbox; journal = c.self.inside.journal; unanswered = c.self.inside.unanswered } in
    let held : IsNoted g.S.Sink.written h = subst (λ (t : HostState g.row.L.Denot g.row.S.Denot). IsNoted g.S.Sink.written t) (sym c.self.view_is) c.requires in
    let v = c.self.inside.pass in let w = c.get_ack-answer.new.pass in
    let grown : Grown v w Sender c.args.stream act.Ack c.reply_to_ack-known.result = subst (λ (a : Answer). Grown v w Sender c.args.stream act.Ack a) (sym c.reply_to_ack-known.ensures) c.get_ack-answer.ensures.grown in
    c.in-Err.ensures.begun v w (sym c.number-pass.ensures.number) grown held.0

pub returns-clause-noted : goal.returns-clause-noted
returns-clause-noted g c =
    let h : HostState g.row.L.Denot g.row.S.Denot = record { side = c.self.inside.side; streams = c.self.inside.streams; book = c.self.inside.book; pass = c.self.inside.pass; other = c.self.inside.other; pump = c.self.inside.pump; link = c.self.inside.link; outbox = c.self.inside.outbox; journal = c.self.inside.journal; unanswered = c.self.inside.unanswered } in
    let held : IsNoted g.S.Sink.written h = subst (λ (t : HostState g.row.L.Denot g.row.S.Denot). IsNoted g.S.Sink.written t) (sym c.self.view_is) c.requires in
    let v = c.self.inside.pass in let w = c.get_ack-answer.new.pass in
    let grown : Grown v w Sender c.args.stream act.Ack c.reply_to_ack-known.result = subst (λ (a : Answer). Grown v w Sender c.args.stream act.Ack a) (sym c.reply_to_ack-known.ensures) c.get_ack-answer.ensures.grown in
    ack_noted g.S.Sink.written h w c.note_answer.new.journal c.args.stream c.reply_to_ack-known.result held (c.in-Ok.ensures.noted v w (sym c.number-pass.ensures.number) grown held.0) c.note_answer.ensures.same grown

pub invariant_of-self : goal.invariant_of-self
invariant_of-self g c =
    let h : HostState g.row.L.Denot g.row.S.Denot = record { side = c.self.inside.side; streams = c.self.inside.streams; book = c.self.inside.book; pass = c.self.inside.pass; other = c.self.inside.other; pump = c.self.inside.pump; link = c.self.inside.link; outbox = c.self.inside.outbox; journal = c.self.inside.journal; unanswered = c.self.inside.unanswered } in
    host_called h c.note_answer.new.journal c.get_ack-answer.new.pass Sender c.args.stream act.Ack (ack_answer c.get_ack-answer.result) c.self.invariant c.get_ack-answer.ensures.grown

pub invariant_of-self-2 : goal.invariant_of-self-2
invariant_of-self-2 g c =
    let h : HostState g.row.L.Denot g.row.S.Denot = record { side = c.self.inside.side; streams = c.self.inside.streams; book = c.self.inside.book; pass = c.self.inside.pass; other = c.self.inside.other; pump = c.self.inside.pump; link = c.self.inside.link; outbox = c.self.inside.outbox; journal = c.self.inside.journal; unanswered = c.self.inside.unanswered } in
    host_called h c.note_answer.new.journal c.get_ack-answer.new.pass Sender c.args.stream act.Ack (ack_answer c.get_ack-answer.result) c.self.invariant c.get_ack-answer.ensures.grown
