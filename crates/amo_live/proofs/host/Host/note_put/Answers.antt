use Rattle.std.proofs.Common.{List, ℕ, sym, subst}
use Rattle.amo_object.specs.declared.step.End.TheVariants.{Sender}
use Rattle.amo_core.specs.declared.act.Act.TheVariants as act
use Rattle.amo_book.specs.Calls.{put_answer}
use Rattle.amo_book.specs.Pass.{Answer, Grown}
use Rattle.amo_live.specs.Host.{HostState, HasLines}
use Rattle.amo_live.proofs.Emissions.{host_called}
use Rattle.amo_live.proofs.Suiting.{put_spelt}
use Rattle.amo_live.proofs.host.Host.note_put.Goals as goal

pub note_answer-requires-clause-spelt : goal.note_answer-requires-clause-spelt
note_answer-requires-clause-spelt g c = put_spelt c.self.inside.journal.version c.args.stream c.args.message c.in-Ok.copy c.put-answer.result c.reply_to_put-known.result c.is_message.ensures c.in-Ok.ensures.cases c.reply_to_put-known.ensures

pub returns-in-Err-clause-begun : goal.returns-in-Err-clause-begun
returns-in-Err-clause-begun g c =
    let h : HostState g.row.L.Denot g.row.S.Denot = record { side = c.self.inside.side; streams = c.self.inside.streams; book = c.self.inside.book; pass = c.self.inside.pass; other = c.self.inside.other; pump = c.self.inside.pump; link = c.self.inside.link; outbox = c.self.inside.outbox; journal = c.self.inside.journal; unanswered = c.self.inside.unanswered } in
    let held : HasLines g.S.Sink.written h = subst (λ (t : HostState g.row.L.Denot g.row.S.Denot). HasLines g.S.Sink.written t) (sym c.self.view_is) c.requires in
    let v = c.self.inside.pass in let w = c.put-answer.new.pass in
    let same : Grown v w Sender c.args.stream (act.Put c.in-Ok.copy) (put_answer c.put-answer.result) = subst (λ (m : List ℕ). Grown v w Sender c.args.stream (act.Put m) (put_answer c.put-answer.result)) (sym c.in-Ok.ensures.cases) c.put-answer.ensures.grown in
    let grown : Grown v w Sender c.args.stream (act.Put c.in-Ok.copy) c.reply_to_put-known.result = subst (λ (a : Answer). Grown v w Sender c.args.stream (act.Put c.in-Ok.copy) a) (sym c.reply_to_put-known.ensures) same in
    c.in-Err.ensures.begun v w (sym c.number-pass.ensures.number) grown held

pub returns-clause-noted : goal.returns-clause-noted
returns-clause-noted g c =
    let h : HostState g.row.L.Denot g.row.S.Denot = record { side = c.self.inside.side; streams = c.self.inside.streams; book = c.self.inside.book; pass = c.self.inside.pass; other = c.self.inside.other; pump = c.self.inside.pump; link = c.self.inside.link; outbox = c.self.inside.outbox; journal = c.self.inside.journal; unanswered = c.self.inside.unanswered } in
    let held : HasLines g.S.Sink.written h = subst (λ (t : HostState g.row.L.Denot g.row.S.Denot). HasLines g.S.Sink.written t) (sym c.self.view_is) c.requires in
    let v = c.self.inside.pass in let w = c.put-answer.new.pass in
    let same : Grown v w Sender c.args.stream (act.Put c.in-Ok.copy) (put_answer c.put-answer.result) = subst (λ (m : List ℕ). Grown v w Sender c.args.stream (act.Put m) (put_answer c.put-answer.result)) (sym c.in-Ok.ensures.cases) c.put-answer.ensures.grown in
    let grown : Grown v w Sender c.args.stream (act.Put c.in-Ok.copy) c.reply_to_put-known.result = subst (λ (a : Answer). Grown v w Sender c.args.stream (act.Put c.in-Ok.copy) a) (sym c.reply_to_put-known.ensures) same in
    c.in-Ok-note_answer.ensures.noted v w (sym c.number-pass.ensures.number) grown held

pub invariant_of-self : goal.invariant_of-self
invariant_of-self g c =
    let h : HostState g.row.L.Denot g.row.S.Denot = record { side = c.self.inside.side; streams = c.self.inside.streams; book = c.self.inside.book; pass = c.self.inside.pass; other = c.self.inside.other; pump = c.self.inside.pump; link = c.self.inside.link; outbox = c.self.inside.outbox; journal = c.self.inside.journal; unanswered = c.self.inside.unanswered } in
    host_called h c.note_answer.new.journal c.put-answer.new.pass Sender c.args.stream (act.Put c.args.message) (put_answer c.put-answer.result) c.self.invariant c.put-answer.ensures.grown

pub invariant_of-self-2 : goal.invariant_of-self-2
invariant_of-self-2 g c =
    let h : HostState g.row.L.Denot g.row.S.Denot = record { side = c.self.inside.side; streams = c.self.inside.streams; book = c.self.inside.book; pass = c.self.inside.pass; other = c.self.inside.other; pump = c.self.inside.pump; link = c.self.inside.link; outbox = c.self.inside.outbox; journal = c.self.inside.journal; unanswered = c.self.inside.unanswered } in
    host_called h c.note_answer.new.journal c.put-answer.new.pass Sender c.args.stream (act.Put c.args.message) (put_answer c.put-answer.result) c.self.invariant c.put-answer.ensures.grown
