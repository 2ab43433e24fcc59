use Rattle.std.proofs.lemmas.Result.{IfOk-weaker}
use Rattle.amo_host.proofs.AtStreamLemmas.{resends}
use Rattle.amo_host.proofs.pump.Pump.resend.Goals as goal

pub returns-in-Some-clause-ok : goal.returns-in-Some-clause-ok
returns-in-Some-clause-ok g c =
    IfOk-weaker c.perform.result _ _
    (λ turned done. resends c.args.self.now c.perform.new.self c.args.pass.now c.perform.new.pass _ _ c.in-Some.place c.args.now c.args.stream turned c.in-Some.ensures.station c.in-Some.ensures.found c.perform.ensures.words done)
    c.perform.ensures.done
