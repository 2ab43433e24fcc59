use Rattle.std.proofs.Common.{◌≡◌, IfOk, subst}
use Rattle.amo_window.specs.declared.pace.Pace.{Pace}
use Rattle.amo_host.specs.Host.{paced}
use Rattle.amo_host.proofs.agenda.Agenda.new.Goals as goal

pub returns-clause-ok : goal.returns-clause-ok
returns-clause-ok c = subst (λ (pace : Pace). IfOk c.paced.result (λ h. h ≡ paced pace c.args.side c.args.modes.items c.args.window)) c.in_ticks.ensures c.paced.ensures.ok
