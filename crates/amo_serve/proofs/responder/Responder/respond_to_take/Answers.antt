use Rattle.std.proofs.Common.{inl}
use Rattle.amo_serve.specs.declared.responder.taking.Taken.TheVariants as taken
use Rattle.amo_serve.proofs.Told.{tells_take}
use Rattle.amo_serve.proofs.responder.Responder.respond_to_take.Goals as goal

pub returns-in-Answer-clause-replies : goal.returns-in-Answer-clause-replies
returns-in-Answer-clause-replies g c =
    let old = c.args.self.now in let new = c.take.new.self in let answer = c.in-Answer.answer in
    let answers = rw c.in-Answer.is at c.in_ok-answer.ensures.taken in
    let why = rw c.in-Answer.is at c.in_ok-answer.ensures.why in
    λ has.
    inl (
      answers,
      why,
      λ u served. tells_take old.numbers new.numbers u old.service.host.pass new.service.host.pass old.service.host.journal new.service.host.journal c.args.claim (taken.Answer answer) served answers,
    )
