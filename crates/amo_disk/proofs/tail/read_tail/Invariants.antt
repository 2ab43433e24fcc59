use Rattle.std.specs.Prelude.{◌≡◌, length}
use Rattle.amo_disk.specs.Tail.{GoesOn}
use Rattle.amo_disk.proofs.tail.read_tail.Given as goal

-- lines were taken, and those that are left are of the same version
abbrev pub invariant-loop-more : goal.invariant-loop-more
invariant-loop-more l = GoesOn l.fn.version l.side l.first l.text l.last l.lines.text.now × (l.lines.version ≡ l.fn.version)

-- how many bytes are left
abbrev pub decreases-loop-more : goal.decreases-loop-more
decreases-loop-more l = length l.lines.text.now
