use Rattle.std.proofs.Common.{◌≡◌, map, IfOk, subst}
use Rattle.amo_window.specs.declared.pace.Pace.{Pace}
use Rattle.amo_window.specs.Timers.{CanBeTimed, resting}
use Rattle.amo_window.proofs.timers.Timers.new.Goals as goal

pub returns-clause-ok : goal.returns-clause-ok
returns-clause-ok c =
    subst (λ (pace : Pace). IfOk c.paced.result (λ timers. (timers ≡ map (resting pace) c.args.streams.now) × CanBeTimed c.args.streams.now)) c.in_ticks.ensures c.paced.ensures.ok
