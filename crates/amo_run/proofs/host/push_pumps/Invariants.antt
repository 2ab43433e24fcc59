use Rattle.std.specs.Prelude.{◌≡◌, ◌+◌, ◌++◌, length, map}
use Rattle.amo_run.specs.Versions.{starting}
use Rattle.amo_run.proofs.host.push_pumps.Given as goal

-- so far these pumps are added, each with its wire
abbrev pub invariant-pumps : goal.invariant-pumps
invariant-pumps g l = record {
  jobs : map (λ j. j.task.pump) l.jobs.items ≡ map (λ j. j.task.pump) l.initial.jobs.items ++ map (starting l.host.batch) l.yielded;
  number : l.number ≡ length l.yielded;
  wires : length l.wires.items + l.number ≡ length l.initial.wires.items;
}
