use Rattle.std.proofs.Common.{ap, subst}
use Rattle.amo_live.specs.Host.{HostState, IsHost}
use Rattle.amo_live.proofs.host.Host.streams.Goals as goal

pub returns-clause-streams : goal.returns-clause-streams
returns-clause-streams g c = ap (λ (t : HostState g.row.L.Denot g.row.S.Denot). t.streams) c.self.view_is

pub returns-clause-host : goal.returns-clause-host
returns-clause-host g c = subst (λ (t : HostState g.row.L.Denot g.row.S.Denot). IsHost t) c.self.view_is c.self.invariant
