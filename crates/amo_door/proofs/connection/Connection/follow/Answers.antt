use Rattle.std.proofs.Common.{subst}
use Rattle.std.specs.Prelude.{OnOk}
use Rattle.amo_door.specs.Connection.{ConnectionState, SpellsFront}
use Rattle.amo_door.proofs.Settled.{settled, settled_where}
use Rattle.amo_door.proofs.Written.{written}
use Rattle.amo_door.proofs.connection.Connection.follow.Goals as goal

pub returns-clause-spelt : goal.returns-clause-spelt
returns-clause-spelt c =
    settled_where c.settle.result _ _ (subst (λ (s : ConnectionState). OnOk c.settle.result (SpellsFront s c.settle.new.self)) c.self.view_is
    (settled _ c.write_response-written.result c.settle.result _ _ _ _ c.settle.new.self c.settle.ensures
    (written _ _ _ c.write_response-written.result c.write_response-written.ensures.outcome) c.write_response-written.ensures.ok c.write_response-written.ensures.next))
