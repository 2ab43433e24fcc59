use Rattle.std.proofs.lemmas.Result.{IfOk-weaker}
use Rattle.amo_serve.proofs.Sides.{take_puts_none}
use Rattle.amo_serve.proofs.Told.{tells_take}
use Rattle.amo_serve.proofs.responder.Responder.take.Goals as goal

pub returns-clause-told : goal.returns-clause-told
returns-clause-told g c = λ u served.
    let old = c.args.self.now in let new = c.take_once.new.self in
    IfOk-weaker c.take_once.result _ _
    (λ took taken. tells_take old.numbers new.numbers u old.service.host.pass new.service.host.pass old.service.host.journal new.service.host.journal c.args.claim took served taken) c.take_once.ensures.taken

pub returns-clause-none_put : goal.returns-clause-none_put
returns-clause-none_put g c =
    let old = c.args.self.now in let new = c.take_once.new.self in
    take_puts_none c.take_once.result old.numbers new.numbers old.service.host.pass new.service.host.pass old.service.host.journal new.service.host.journal c.args.claim c.take_once.ensures.taken
