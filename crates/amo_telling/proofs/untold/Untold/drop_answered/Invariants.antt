use Rattle.std.proofs.Common.{◌≡◌, take}
use Rattle.amo_telling.specs.Untold.{Drops}
use Rattle.amo_telling.proofs.untold.Untold.drop_answered.Given as goal

-- of those so far some were dropped, and nothing else changed
abbrev pub invariant-loop-number : goal.invariant-loop-number
invariant-loop-number l = record {
  same : (l.self.followers ≡ l.fn.self.followers) × (l.self.counts ≡ l.fn.self.counts) × (l.self.next ≡ l.fn.self.next);
  dropped : Drops l.fn.self l.self (take l.number-index l.sent);
}
