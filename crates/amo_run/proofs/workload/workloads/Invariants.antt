use Rattle.std.specs.Prelude.{◌≡◌, length}
use Rattle.amo_run.proofs.workload.workloads.Given as goal

-- so far there are the scripts of these clients
abbrev pub invariant-clients : goal.invariant-clients
invariant-clients g l = length l.scripts.items ≡ l.place
