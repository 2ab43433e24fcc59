use Rattle.amo_run.specs.Engine.{Recorded}
use Rattle.amo_run.proofs.engine.Engine+L+ChaChaWords.work.Given as goal

-- so far the record has grown by the events that the pass and the pump made
abbrev pub invariant-turns : goal.invariant-turns
invariant-turns g l = Recorded l.place.book.now l.fn.pass l.pass l.fn.self.pump l.self.pump l.fn.tally.made.items l.tally.made.items
