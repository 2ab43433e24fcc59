use Rattle.amo_archive.specs.Lane.{AreEmpty}
use Rattle.amo_archive.proofs.past.no_lanes.Given as goal

-- so many lanes, without puts
abbrev pub invariant-loop-stream : goal.invariant-loop-stream
invariant-loop-stream l = AreEmpty l._stream l.lanes.items
