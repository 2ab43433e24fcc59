use Rattle.std.proofs.Common.{subst}
use Rattle.amo_host.specs.AtStream.{IsNextDue}
use Rattle.amo_live.specs.Host.{HostState}
use Rattle.amo_live.proofs.host.Host.next_due.Goals as goal

pub returns : goal.returns
returns g c = subst (λ (t : HostState g.row.L.Denot g.row.S.Denot). IsNextDue t.pump.host c.next_due.result) c.self.view_is c.next_due.ensures
