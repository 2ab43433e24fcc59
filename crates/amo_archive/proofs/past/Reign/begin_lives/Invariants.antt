use Rattle.std.proofs.Common.{◌≡◌, ◌-◌, ◌≤◌, drop, length}
use Rattle.amo_archive.specs.Reign.{begun}
use Rattle.amo_archive.proofs.past.Reign.begin_lives.Given as goal

-- the lives so far have begun
abbrev pub invariant-loop-self : goal.invariant-loop-self
invariant-loop-self l = record {
  begun : begun l.fn.lives l.fn.number (drop l.fn.self.upcoming l.fn.lives) l.fn.self ≡ begun l.fn.lives l.fn.number (drop l.self.upcoming l.fn.lives) l.self;
  within : l.self.upcoming ≤ length l.fn.lives;
}

abbrev pub decreases-loop-self : goal.decreases-loop-self
decreases-loop-self l = length l.fn.lives - l.self.upcoming
