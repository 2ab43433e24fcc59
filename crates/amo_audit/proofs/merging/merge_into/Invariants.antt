use Rattle.std.proofs.Common.{◌+◌}
use Rattle.amo_audit.specs.Coming.{left_of}
use Rattle.amo_audit.proofs.Entries.{Along}
use Rattle.amo_audit.proofs.merging.merge_into.Given as goal

-- both have come so far
abbrev pub invariant-loop-right : goal.invariant-loop-right
invariant-loop-right g l = Along g.S.Site.HasTaken l.fn.first l.fn.second l.site l.taken l.of_first l.left.next l.left.rest l.right.next l.right.rest

abbrev pub decreases-loop-right : goal.decreases-loop-right
decreases-loop-right g l = left_of l.left.next l.left.rest + left_of l.right.next l.right.rest
