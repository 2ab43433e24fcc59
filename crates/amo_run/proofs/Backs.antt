-- What is back is all that a book gave out.
use Rattle.std.proofs.Common.{List, [], ◌∷◌, length, map}
use Rattle.amo_book.specs.Book.{BookState, Each}
use Rattle.amo_book.specs.Charge.{IsChargeOf}
use Rattle.amo_book.specs.Closed.{AllCharges}
use Rattle.amo_host.specs.Station.{Station}
use Rattle.amo_journal.specs.declared.version.Version.{Version}
use Rattle.amo_run.specs.declared.home.Home.{Home}
use Rattle.amo_run.specs.declared.roster.Roster.{Roster}
use Rattle.amo_run.specs.Crew.{IsBack, IsOurs, dealt}
use Rattle.amo_run.specs.Whole.{Ends}
use Rattle.amo_run.proofs.Crews.{charges_all, ties_each}
use Rattle.amo_run.proofs.Hosts.{each_both}

each_dealt : {A W : Type 0} (version : Version) (b : BookState) (f : A → Station W) (xs : List A) → Each (λ (x : A). IsOurs version b (f x)) xs → Each (IsChargeOf b.id b.sides) (dealt (map f xs))
each_dealt version b f [] h = tt
each_dealt version b f (x ∷ xs) h = each_both (IsChargeOf b.id b.sides) (f x).charges (dealt (map f xs)) h.0.0 (each_dealt version b f xs h.1)

pub ends : {A W : Type 0} (r : Roster) (version : Version) (f : A → Station W) (b : BookState) (jobs : List A) (h : Home) → AllCharges (dealt (map f jobs)) (length b.sides)
    → Each (λ (x : A). IsOurs version b (f x)) jobs → IsBack r version b (dealt (map f jobs)) h → Ends r version b h
ends r version f b jobs h whole ours back = record {
  passes = back.sofar.passes;
  count = back.count;
  events = back.sofar.events;
  charges = λ l. charges_all (length b.sides) (dealt (map f jobs)) h.charges.items whole (back.charges_are l);
  ours = λ l. ties_each b (dealt (map f jobs)) h.charges.items (back.charges_are l) (each_dealt version b f jobs ours);
  fit = back.sofar.fit;
}
