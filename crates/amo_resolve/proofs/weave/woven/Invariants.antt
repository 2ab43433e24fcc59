use Rattle.std.proofs.Common.{◌+◌}
use Rattle.amo_resolve.proofs.Weaving.{IsWoven}
use Rattle.amo_resolve.proofs.weave.woven.Given as goal

abbrev pub invariant-loop-losses : goal.invariant-loop-losses
invariant-loop-losses l = IsWoven l.fn.calls.items l.draft.marks.items l.place l.losses l.since l.run.items

-- each step finds its place
abbrev pub decreases-loop-losses : goal.decreases-loop-losses
decreases-loop-losses l = l.place + l.losses
