-- What a run leaves of a book.
use Rattle.std.specs.Prelude.{◌≡◌, ℕ, suc, false, List, [], ◌∷◌, length, map, reverse, All}
use Rattle.amo_object.specs.declared.step.End.{End}
use Rattle.amo_world.specs.declared.event.Event.{Event}
use Rattle.amo_world.specs.History.{IsRight}
use Rattle.amo_book.specs.Book.{BookState, Each}
use Rattle.amo_book.specs.Charge.{IsChargeOf}
use Rattle.amo_book.specs.Closed.{ClosedState, AllCharges}
use Rattle.amo_book.specs.Pass.{Serves, automaton_after}
use Rattle.amo_book.specs.Rule.{AllBelow}
use Rattle.amo_journal.specs.declared.version.Version.{Version}
use Rattle.amo_run.specs.declared.home.Home.{Home}
use Rattle.amo_run.specs.declared.roster.Roster.{Roster}
use Rattle.amo_run.specs.Crew.{EachAt, IsHome, joined}
use Rattle.amo_run.specs.Fits.{AllFit}
use Rattle.amo_run.specs.Roster.{IsOneOf, IsWhose}

-- events in the order of time, each with its position
abbrev pub numbered : ℕ → List Event → List (ℕ × Event)
numbered k [] = []
numbered k (e ∷ es) = (k, e) ∷ numbered (suc k) es

-- The events are the whole history of a book with these sides and passes, in the order of positions: the history that its end tells of. Each
-- reply is the tables', and where it is honest and fresh each stream is served. Each event is of one of the sides, and bears the pass of who makes such an
-- event: a client, or the pump that drives its side.
pub record IsWhole (sides : List (End × ℕ)) (passes : ℕ) (roster : Roster) (closed : ClosedState) (events : List Event) : Type 0 where
  pub history : List Event
  pub in_order : events ≡ reverse history
  pub right : IsRight history
  pub served : Serves history
  pub no_others : AllBelow passes history
  pub whose : All (IsOneOf roster sides) events
  pub count : closed.count ≡ length events
  pub states : closed.states ≡ map (λ side. automaton_after side.0 side.1 history) sides

-- All that the book gave out is back, with the events of each pass, which have lines in this version of journals, and bear the pass of who may make them,
-- unless memory was refused.
pub record Ends (r : Roster) (version : Version) (book : BookState) (h : Home) : Type 0 where
  pub passes : EachAt (IsHome book) 0 h.passes.items
  pub count : length h.passes.items ≡ book.passes
  pub events : h.is_short ≡ false → h.events.items ≡ joined h.passes.items
  pub charges : h.is_short ≡ false → AllCharges h.charges.items (length book.sides)
  pub ours : h.is_short ≡ false → Each (IsChargeOf book.id book.sides) h.charges.items
  pub fit : h.is_short ≡ false → AllFit version book.sides (IsWhose r) h.events.items
