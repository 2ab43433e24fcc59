use Rattle.std.proofs.Common.{subst}
use Rattle.amo_book.specs.Pass.{Answer, Grown}
use Rattle.amo_live.proofs.Onwards.{begins_answer}
use Rattle.amo_live.proofs.noting.note_answer.Goals as goal

pub returns-in-Err-clause-begun : goal.returns-in-Err-clause-begun
returns-in-Err-clause-begun g c = λ v w is grown held.
    begins_answer g.S.Sink.written c.args.journal.now c.note.new.self c.args.pass c.args.side c.args.stream c.args.act c.in-Some.reply c.in-Some.position c.in-Err.ensures.begun v w is
    (subst (λ (o : Answer). Grown v w c.args.side c.args.stream c.args.act o) c.in-Some.is grown) held
