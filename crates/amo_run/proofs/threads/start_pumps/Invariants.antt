use Rattle.std.specs.Prelude.{◌≡◌, ◌+◌, ◌++◌, ◌≤◌, length, map, reverse, vec_capacity}
use Rattle.amo_book.specs.Book.{Each}
use Rattle.amo_run.specs.Crew.{EachAt, IsDriver, IsNew, IsOurs, IsPump, dealt, lent}
use Rattle.amo_run.proofs.threads.start_pumps.Given as goal

-- The passes that are left are the first ones, and the threads have the others. What the pumps that wait hold and what is lent is all.
abbrev pub invariant-pumps : goal.invariant-pumps
invariant-pumps g l = record {
  rest : EachAt (IsNew l.place.book.now) 0 l.passes.items;
  enough : l.place.roster.first_pump + length l.jobs.items ≡ length l.passes.items;
  ours : Each (λ j. IsOurs l.place.version l.place.book.now j.task.pump) l.jobs.items;
  drivers : EachAt (λ n j. IsDriver l.place.roster.part l.place.roster.pumps n j.task.pump) 0 l.jobs.items;
  threads : EachAt (IsPump l.place.roster l.place.version l.place.book.now) (length l.passes.items) (reverse l.pumps.items);
  started : length l.pumps.items + length l.jobs.items ≡ length l.initial.jobs.items;
  taken : length l.pumps.items + length l.passes.items ≡ length l.initial.passes.items;
  room : length l.pumps.items + length l.jobs.items ≤ vec_capacity l.pumps;
  homes : vec_capacity l.passes ≡ vec_capacity l.initial.passes;
  all : dealt (map (λ j. j.task.pump) l.jobs.items) ++ lent (reverse l.pumps.items) ≡ dealt (map (λ j. j.task.pump) l.initial.jobs.items);
}

abbrev pub decreases-pumps : goal.decreases-pumps
decreases-pumps g l = length l.jobs.items
