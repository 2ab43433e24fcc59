use Rattle.std.proofs.Common.{◌≡◌, ◌+◌, length}
use Rattle.amo_resolve.specs.Telling.{OnlyLost, part, known_of, state_of, state_before}
use Rattle.amo_resolve.proofs.Losing.{Losing}
use Rattle.amo_resolve.proofs.tell.Told.lose_to.Given as goal

-- what is looked at already is lost but for what is found of the part
abbrev pub invariant-loop-self : goal.invariant-loop-self
invariant-loop-self l = record {
  first : l.self.queue.first ≡ l.fn.self.queue.first;
  known : l.self.queue.known ≡ l.fn.self.queue.known;
  lost : OnlyLost l.fn.self.draft (state_of l.got l.fn.self.queue) l.self.draft (state_before l.got l.self.queue (part l.got l.left l.end));
  losing : Losing (state_of l.got l.fn.self.queue) (state_before l.got l.self.queue (part l.got l.left l.end)) l.got l.fn.self.queue.first l.end l.left
      (length (known_of l.got l.fn.self.queue) + length l.self.queue.others);
}

abbrev pub decreases-loop-self : goal.decreases-loop-self
decreases-loop-self l = length l.self.queue.others
