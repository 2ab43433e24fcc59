use Rattle.std.proofs.lemmas.Result.{IfOk-weaker}
use Rattle.amo_serve.proofs.Told.{tells_put}
use Rattle.amo_serve.proofs.responder.Responder.put.Goals as goal

pub returns-clause-told : goal.returns-clause-told
returns-clause-told g c = λ u served.
    let old = c.args.self.now in let new = c.put_once.new.self in
    IfOk-weaker c.put_once.result _ _
    (λ answer answered. tells_put old.numbers new.numbers u old.service.host.pass new.service.host.pass old.service.host.journal new.service.host.journal c.args.claim c.args.message answer served answered) c.put_once.ensures.answered
