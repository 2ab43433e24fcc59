use Rattle.std.proofs.Common.{◌≡◌, ◌↔◌, Some, IsErrOf, sym, subst}
use Rattle.amo_packet.specs.Fault.{first_fault}
use Rattle.amo_journal.specs.declared.version.Version.{Version}
use Rattle.amo_journal.specs.Version.{newest}
use Rattle.amo_run.proofs.engine.read_for.Goals as goal

pub returns-in-One-clause-fault : goal.returns-in-One-clause-fault
returns-in-One-clause-fault c f = subst (λ (version : Version). IsErrOf c.read_1.result f ↔ (first_fault (newest version) c.args.bytes.now ≡ Some f)) (sym c.in-One.is) (c.read_1.ensures.fault f)

pub returns-in-Two-clause-fault : goal.returns-in-Two-clause-fault
returns-in-Two-clause-fault c f = subst (λ (version : Version). IsErrOf c.read.result f ↔ (first_fault (newest version) c.args.bytes.now ≡ Some f)) (sym c.in-Two.is) (c.read.ensures.fault f)
