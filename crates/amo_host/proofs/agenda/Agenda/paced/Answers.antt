use Rattle.std.proofs.Common.{rules, subst, ap, ◌∙◌}
use Rattle.amo_window.specs.Timers.{CanBeTimed}
use Rattle.amo_host.specs.Host.{paced, streams_of}
use Rattle.amo_host.proofs.HostLemmas.{paced_host, same_host}
use Rattle.amo_host.proofs.agenda.Agenda.paced.Goals as goal

pub invariant_of-result : goal.invariant_of-result
invariant_of-result c =
    let timed = subst CanBeTimed (c.deref-2.ensures.value ∙ c.in_ok-streams.ensures ∙ ap streams_of c.deref.ensures.value) c.in_ok-timers.ensures.ok.1 in
    same_host _ (paced c.args.pace c.args.side c.args.modes.items c.args.window) (search rules)
    (paced_host c.args.pace c.args.side c.args.modes.items c.args.window c.requires.some c.requires.rest timed)

pub returns-clause-host : goal.returns-clause-host
returns-clause-host c =
    let timed = subst CanBeTimed (c.deref-2.ensures.value ∙ c.in_ok-streams.ensures ∙ ap streams_of c.deref.ensures.value) c.in_ok-timers.ensures.ok.1 in
    same_host _ (paced c.args.pace c.args.side c.args.modes.items c.args.window) (search rules)
    (paced_host c.args.pace c.args.side c.args.modes.items c.args.window c.requires.some c.requires.rest timed)
