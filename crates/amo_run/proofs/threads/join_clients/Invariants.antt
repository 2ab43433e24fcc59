use Rattle.std.specs.Prelude.{◌≡◌, ◌+◌, length, reverse, vec_capacity}
use Rattle.amo_run.specs.Crew.{EachAt, IsClient, SoFar}
use Rattle.amo_run.proofs.threads.join_clients.Given as goal

-- the passes that are back are the first ones, and the threads that run have the others
abbrev pub invariant-joins : goal.invariant-joins
invariant-joins g l = record {
  back : SoFar l.roster l.version l.book l.home;
  threads : EachAt (IsClient l.roster l.book) (length l.home.passes.items) (reverse l.threads.items);
  count : length l.threads.items + length l.home.passes.items ≡ length l.initial.threads.items + length l.initial.home.passes.items;
  room : vec_capacity l.home.passes ≡ vec_capacity l.initial.home.passes;
  charges : l.home.charges ≡ l.initial.home.charges;
}

abbrev pub decreases-joins : goal.decreases-joins
decreases-joins g l = length l.threads.items
