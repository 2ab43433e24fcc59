use Rattle.std.proofs.lemmas.Result.{IfOk-weaker}
use Rattle.amo_host.proofs.AtStreamLemmas.{starts}
use Rattle.amo_host.proofs.pump.Pump.start.Goals as goal

pub returns-clause-ok : goal.returns-clause-ok
returns-clause-ok g c =
    IfOk-weaker c.perform.result _ _
    (λ turned done. starts g.W.Words.to_come c.args.self.now c.draw.new.self c.perform.new.self c.args.pass.now c.perform.new.pass _ _ c.in-Some.place c.args.now c.args.stream c.in_ok-word.word c.start_under-start.result turned
    c.in-Some.ensures.station c.in-Some.ensures.found (c.may_begin.ensures.begin.0 c.if-not-may_begin.false) c.in_ok-word.ensures.drawn c.draw.ensures.rest c.perform.ensures.words c.start_under-start.ensures done)
    c.perform.ensures.done
