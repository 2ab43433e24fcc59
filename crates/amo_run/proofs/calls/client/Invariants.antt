use Rattle.std.specs.Prelude.{◌≡◌}
use Rattle.amo_journal.specs.declared.version.Version.TheVariants.{One}
use Rattle.amo_run.specs.Crew.{IsCall}
use Rattle.amo_run.specs.Fits.{AllFit}
use Rattle.amo_run.specs.Told.{Tells}
use Rattle.amo_run.proofs.calls.client.Given as goal

-- so far the pass's own events have grown by those of the list, each of a side of the book
abbrev pub invariant-calls : goal.invariant-calls
invariant-calls g l = (l.pass.book ≡ l.fn.book.id) × Tells l.fn.pass l.pass l.made.items × AllFit One l.fn.book.sides IsCall l.made.items
