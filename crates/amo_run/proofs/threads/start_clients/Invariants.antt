use Rattle.std.specs.Prelude.{◌≡◌, ◌+◌, ◌≤◌, length, reverse, vec_capacity}
use Rattle.amo_run.specs.Crew.{EachAt, IsNew, IsClient}
use Rattle.amo_run.proofs.threads.start_clients.Given as goal

-- the passes that are left are the first ones, and the threads have the others
abbrev pub invariant-clients : goal.invariant-clients
invariant-clients g l = record {
  rest : EachAt (IsNew l.place.book.now) 0 l.passes.items;
  enough : l.place.roster.first_client + length l.scripts.items ≡ length l.passes.items;
  first : length l.passes.items ≤ l.place.roster.first_pump;
  threads : EachAt (IsClient l.place.roster l.place.book.now) (length l.passes.items) (reverse l.clients.items);
  started : length l.clients.items + length l.scripts.items ≡ length l.initial.scripts.items;
  taken : length l.clients.items + length l.passes.items ≡ length l.initial.passes.items;
  room : length l.clients.items + length l.scripts.items ≤ vec_capacity l.clients;
  homes : vec_capacity l.passes ≡ vec_capacity l.initial.passes;
}

abbrev pub decreases-clients : goal.decreases-clients
decreases-clients g l = length l.scripts.items
