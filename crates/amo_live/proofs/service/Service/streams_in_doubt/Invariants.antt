use Rattle.std.specs.Prelude.{◌≡◌}
use Rattle.amo_live.specs.Service.{doubtful_to, is_in_doubt}
use Rattle.amo_live.proofs.service.Service.streams_in_doubt.Given as goal

-- those of the streams so far were found
abbrev pub invariant-streams : goal.invariant-streams
invariant-streams g l = l.found.items ≡ doubtful_to (is_in_doubt l.self) l.place
