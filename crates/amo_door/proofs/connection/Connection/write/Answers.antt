use Rattle.std.proofs.Common.{subst}
use Rattle.std.specs.Prelude.{OnOk}
use Rattle.amo_door.specs.Connection.{ConnectionState, SpellsAnswer}
use Rattle.amo_door.proofs.Settled.{settled}
use Rattle.amo_door.proofs.connection.Connection.write.Goals as goal

pub returns-clause-spelt : goal.returns-clause-spelt
returns-clause-spelt c =
    subst (λ (s : ConnectionState). OnOk c.settle.result (SpellsAnswer c.args.answer.now c.args.closes s c.settle.new.self)) c.self.view_is
    (settled _ c.write_answer-written.result c.settle.result _ _ _ _ c.settle.new.self c.settle.ensures c.write_answer-written.ensures.outcome c.write_answer-written.ensures.ok c.write_answer-written.ensures.next)
