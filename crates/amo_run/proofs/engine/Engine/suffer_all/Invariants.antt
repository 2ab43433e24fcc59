use Rattle.amo_run.specs.Engine.{Recorded}
use Rattle.amo_run.proofs.engine.Engine.suffer_all.Given as goal

-- so far the record has grown by the events that the pass and the pump made
abbrev pub invariant-sides : goal.invariant-sides
invariant-sides g l = Recorded l.fn.book l.fn.pass l.pass l.fn.self.pump l.self.pump l.fn.tally.made.items l.tally.made.items
