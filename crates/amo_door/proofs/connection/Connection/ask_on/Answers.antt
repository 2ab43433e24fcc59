use Rattle.std.proofs.Common.{subst}
use Rattle.amo_door.specs.Connection.{ConnectionState, Extends}
use Rattle.amo_door.proofs.Onward.{extends_either}
use Rattle.amo_door.proofs.connection.Connection.ask_on.Goals as goal

-- the call appends, or refuses
pub returns-clause-output : goal.returns-clause-output
returns-clause-output c =
    subst (λ (s : ConnectionState). Extends s.output c.write_informational.new.output.items) c.self.view_is
    (extends_either c.write_informational.result _ _ _ c.write_informational.ensures.ok c.write_informational.ensures.err)
