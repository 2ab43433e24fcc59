use Rattle.std.proofs.Common.{◌≡◌, take}
use Rattle.amo_pieces.specs.Places.{ends_in}
use Rattle.amo_pieces.proofs.joining.count_ends.Given as goal

-- the ends so far
abbrev pub invariant-loop-byte : goal.invariant-loop-byte
invariant-loop-byte l = l.ends ≡ ends_in (take l.byte-index l.text)
