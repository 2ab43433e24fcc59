use Rattle.std.proofs.Common.{sym, subst}
use Rattle.amo_host.specs.AtStream.{HasMode}
use Rattle.amo_live.specs.Host.{HostState}
use Rattle.amo_live.proofs.NotedLines.{known_mode}
use Rattle.amo_live.proofs.host.Host.mode_of.Goals as goal

pub returns-clause-only : goal.returns-clause-only
returns-clause-only g c = λ mode has.
    known_mode c.self.inside.pump.host c.self.invariant.station.host c.args.stream c.mode_of.result mode
    (subst (λ (t : HostState g.row.L.Denot g.row.S.Denot). HasMode t.pump.host c.args.stream mode) (sym c.self.view_is) has) c.mode_of.ensures.found c.mode_of.ensures.absent
