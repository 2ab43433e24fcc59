use Rattle.std.proofs.Common.{◌≡◌, ◌+◌, length}
use Rattle.amo_audit.proofs.Lone.{AreNew}
use Rattle.amo_audit.proofs.lone_auditor.nothing_taken.Given as goal

-- the streams so far are those at which nothing happened yet
abbrev pub invariant-loop-number : goal.invariant-loop-number
invariant-loop-number l = record {
  count : length l.streams.items + 1 ≡ l.number;
  new : AreNew l.streams.items;
}
