use Rattle.std.proofs.Common.{◌≤◌}
use Rattle.std.specs.Prelude.{vec_capacity}
use Rattle.amo_resolve.proofs.Seeing.{NothingSeen}
use Rattle.amo_resolve.proofs.calls.nothing_seen.Given as goal

-- so many streams, of which nothing is seen, and room for all
abbrev pub invariant-loop : goal.invariant-loop
invariant-loop l = record {
  nothing : NothingSeen l.streams.items l.counter;
  room : 256 ≤ vec_capacity l.streams;
}
