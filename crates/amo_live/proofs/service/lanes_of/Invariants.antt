use Rattle.std.specs.Prelude.{◌≡◌, length}
use Rattle.amo_live.proofs.service.lanes_of.Given as goal

-- so far there is one for each
abbrev pub invariant-streams : goal.invariant-streams
invariant-streams l = length l.lanes.items ≡ l._stream
