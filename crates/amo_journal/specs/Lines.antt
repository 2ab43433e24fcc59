-- The lines of a journal's events, with the journal's version.
use Rattle.std.specs.Prelude.{List}
use Rattle.amo_world.specs.declared.event.Event.{Event}
use Rattle.amo_journal.specs.declared.lines.Lines.{Lines}
use Rattle.amo_journal.specs.declared.numbered.Numbered.{Numbered}
use Rattle.amo_journal.specs.Journal.{SpellsLines, AreEvents}

-- they are these lines, whatever their numbers
abbrev pub AreLines : List Numbered → Lines → Type 0
AreLines numbered lines = SpellsLines lines.version lines.text.now numbered

-- they are the lines of these events, in the order of time, numbered from 0
abbrev pub Tell : List Event → Lines → Type 0
Tell events lines = AreEvents lines.version events lines.text.now
