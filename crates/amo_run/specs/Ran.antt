-- What a run answers.
use Rattle.std.specs.Prelude.{◌≡◌, ℕ, ◌+◌, ◌++◌, Bool, true, false, Some, List, [], All, length, codes}
use Rattle.std.specs.Fmt.{decimal}
use Rattle.amo_book.specs.Closed.{ClosedState}
use Rattle.amo_journal.specs.Journal.{CanSpell}
use Rattle.amo_run.specs.declared.part.Part.TheVariants.{Both, Senders, Receivers}
use Rattle.amo_run.specs.declared.ran.Ran.{Ran}
use Rattle.amo_settings.specs.declared.run.RunSettings.{RunSettings}
use Rattle.amo_run.specs.Parts.{sides_of, clients_of, pumps_of, passes_of}
use Rattle.amo_run.specs.Roster.{roster_of}
use Rattle.amo_run.specs.Versions.{version_for}
use Rattle.amo_run.specs.Whole.{IsWhole}

-- the events of the senders' book, and those of the receivers'
pub record IsOfTwo (s : RunSettings) (r : Ran) : Type 0 where
  pub senders : IsWhole (sides_of Senders s.streams) (passes_of Senders (pumps_of s) (clients_of Senders s.clients)) (roster_of Senders (pumps_of s) (clients_of Senders s.clients)) r.closed r.events.items
  pub closed : ClosedState
  pub told : r.receivers_closed ≡ Some closed
  pub receivers : IsWhole (sides_of Receivers s.streams) (passes_of Receivers (pumps_of s) (clients_of Receivers s.clients)) (roster_of Receivers (pumps_of s) (clients_of Receivers s.clients)) closed r.receivers.items

-- the events of the one book, or of each of the two
abbrev pub IsOfBooks : Bool → RunSettings → Ran → Type 0
IsOfBooks false s r = IsWhole (sides_of Both s.streams) (passes_of Both (pumps_of s) (clients_of Both s.clients)) (roster_of Both (pumps_of s) (clients_of Both s.clients)) r.closed r.events.items
    × (r.receivers.items ≡ [])
IsOfBooks true s r = IsOfTwo s r

-- The events are the whole history of each book, in the order of positions: the history that its end tells of.
abbrev pub IsRanOf : RunSettings → Ran → Type 0
IsRanOf s r = IsOfBooks s.split s r

-- each event has a line in a journal of the version that the settings choose
abbrev pub HasLines : RunSettings → Ran → Type 0
HasLines s r = All (CanSpell (version_for s.batch)) r.events.items × All (CanSpell (version_for s.batch)) r.receivers.items

-- what is told of a run: how many events its books have, and how often its links failed
abbrev pub ran_text : Ran → List ℕ
ran_text r = codes "events " ++ decimal (length r.events.items + length r.receivers.items) ++ codes ", link faults " ++ decimal r.link_faults
