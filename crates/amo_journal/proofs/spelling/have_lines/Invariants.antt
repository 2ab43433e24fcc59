use Rattle.std.specs.List.{AllWithin}
use Rattle.amo_journal.specs.Journal.{CanSpell}
use Rattle.amo_journal.proofs.spelling.have_lines.Given as goal

-- each event so far has a line
abbrev pub invariant-loop-event : goal.invariant-loop-event
invariant-loop-event l = AllWithin (CanSpell l.version) l.events 0 l.event-index
