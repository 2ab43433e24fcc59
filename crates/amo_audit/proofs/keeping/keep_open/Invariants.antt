use Rattle.std.proofs.Common.{◌≡◌, length}
use Rattle.amo_resolve.specs.Resolved.{IsResolved}
use Rattle.amo_audit.proofs.keeping.keep_open.Given as goal

-- each stream is still explained
abbrev pub invariant-loop-place : goal.invariant-loop-place
invariant-loop-place l = (length l.runs.items ≡ length l.fn.runs.items) × IsResolved l.runs.items l.events
