use Rattle.std.proofs.Common.{◌<◌, length}
use Rattle.amo_resolve.proofs.Bordering.{Looking}
use Rattle.amo_resolve.proofs.borders.Borders.longer.Given as goal

-- each longer border does not go on with the message
abbrev pub invariant-loop-end : goal.invariant-loop-end
invariant-loop-end l = record {
  looking : Looking l.got l.end l.limit l.few l.message l.border;
  known : l.border < length l.self.lengths.items;
}

abbrev pub decreases-loop-end : goal.decreases-loop-end
decreases-loop-end l = l.border
