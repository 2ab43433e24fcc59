use Rattle.std.specs.Prelude.{◌≤◌, length}
use Rattle.amo_pieces.specs.Kept.{TellsOf}
use Rattle.amo_pieces.proofs.place.place_in.Given as goal

-- the line begins behind none of the pieces that were passed
abbrev pub invariant-starts : goal.invariant-starts
invariant-starts l = TellsOf l.line l.fn.starts l.rest × (length l.rest ≤ length l.fn.starts)

abbrev pub decreases-starts : goal.decreases-starts
decreases-starts l = length l.rest
