-- What was read of a receiver's journal so far, as it is kept, and what lines that go on tell.
use Rattle.std.specs.Prelude.{◌≡◌, ℕ, ◌==◌, ◌||◌, Bool, if◌then◌else◌, Option, List, ◌++◌, length}
use Rattle.amo_world.specs.declared.event.Event.{Event}
use Rattle.amo_journal.specs.declared.lines.Lines.{Lines}
use Rattle.amo_journal.specs.Journal.{SpellsLines, numbered}
use Rattle.amo_telling.specs.declared.gets.Gets.{Gets}
use Rattle.amo_telling.specs.declared.reading.Reading.{Reading}
use Rattle.amo_telling.specs.declared.reading.Reading.TheVariants.{Whole, OfSender}
use Rattle.amo_telling.specs.Got.{Stops, got_text, has_receivers}

-- the lines of these events, in the order of time, were read, and this is how they are told
pub record HaveRead (after : Option ℕ) (json : Bool) (gets : Gets) (events : List Event) : Type 0 where
  pub after_is : gets.after ≡ after
  pub json_is : gets.json ≡ json
  pub lines : gets.lines ≡ length events
  pub receives : gets.receives ≡ has_receivers events

-- behind the lines of past events these lines begin with those of others, which go on with the numbers, and are read no further; this is
-- written of them
pub record AreGotFurther (after : Option ℕ) (json : Bool) (past : List Event) (lines : Lines) (rest : List ℕ) (reading : Reading) (events : List Event) (text : List ℕ) : Type 0 where
  pub front : List ℕ
  pub whole : lines.text.now ≡ front ++ rest
  pub read : SpellsLines lines.version front (numbered (length past) events)
  pub stops : Stops lines.version (past ++ events) rest reading
  pub written : text ≡ got_text after json (length past) events

-- whose so many lines are, of which this tells whether an event was a receiver's
abbrev pub if_receives : Bool → ℕ → Reading
if_receives receives lines = if receives || (lines == 0) then Whole else OfSender
