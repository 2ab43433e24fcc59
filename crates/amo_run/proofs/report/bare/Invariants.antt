use Rattle.std.specs.Prelude.{◌≡◌, map}
use Rattle.amo_run.proofs.report.bare.Given as goal

-- so far the list has the events that came
abbrev pub invariant-events : goal.invariant-events
invariant-events l = l.events.items ≡ map (λ one. one.1) l.yielded
