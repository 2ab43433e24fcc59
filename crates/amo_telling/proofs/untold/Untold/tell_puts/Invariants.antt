use Rattle.std.specs.Prelude.{List, map}
use Rattle.amo_outcomes.specs.SenderFollowers.{HaveFollowedSenders}
use Rattle.amo_world.specs.declared.event.Event.{Event}
use Rattle.amo_telling.specs.Untold.{IsKnownAs, TellsPuts}
use Rattle.amo_telling.proofs.Settling.{read_pair}
use Rattle.amo_telling.proofs.untold.Untold.tell_puts.Given as goal

-- those so far were told
abbrev pub invariant-loop-number : goal.invariant-loop-number
invariant-loop-number l = (past : List Event) → HaveFollowedSenders l.self.followers past → TellsPuts (IsKnownAs past) l.doubts l.json (map read_pair l.yielded) l.fn.text.items l.text.items
