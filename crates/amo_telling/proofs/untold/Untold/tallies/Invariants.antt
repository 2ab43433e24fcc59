use Rattle.std.proofs.Common.{◌≡◌, length, map}
use Rattle.amo_telling.specs.Untold.{AreTalliesOf}
use Rattle.amo_telling.proofs.Settling.{read_pair}
use Rattle.amo_telling.proofs.untold.Untold.tallies.Given as goal

-- those so far were noted
abbrev pub invariant-loop-number : goal.invariant-loop-number
invariant-loop-number l = record {
  all : length l.tallies.items ≡ 256;
  known : AreTalliesOf l.self.followers (map read_pair l.yielded) l.doubts l.tallies.items;
}
