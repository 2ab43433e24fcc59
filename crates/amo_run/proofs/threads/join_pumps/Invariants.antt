use Rattle.std.specs.Prelude.{◌≡◌, ◌+◌, ◌++◌, false, length, reverse, vec_capacity}
use Rattle.amo_run.specs.Engine.{ties}
use Rattle.amo_run.specs.Crew.{EachAt, IsPump, SoFar, lent}
use Rattle.amo_run.proofs.threads.join_pumps.Given as goal

-- the passes that are back are the first ones, and the threads that run have the others; what is back and what is lent is all
abbrev pub invariant-joins : goal.invariant-joins
invariant-joins g l = record {
  back : SoFar l.roster l.version l.book l.home;
  threads : EachAt (IsPump l.roster l.version l.book) (length l.home.passes.items) (reverse l.threads.items);
  count : length l.threads.items + length l.home.passes.items ≡ length l.initial.threads.items + length l.initial.home.passes.items;
  room : vec_capacity l.home.passes ≡ vec_capacity l.initial.home.passes;
  charges : l.home.is_short ≡ false → ties (l.home.charges.items ++ lent (reverse l.threads.items)) ≡ ties (l.initial.home.charges.items ++ lent (reverse l.initial.threads.items));
}

abbrev pub decreases-joins : goal.decreases-joins
decreases-joins g l = length l.threads.items
