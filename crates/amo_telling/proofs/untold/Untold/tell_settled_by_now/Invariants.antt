use Rattle.std.proofs.Common.{◌≡◌, ◌++◌, ℕ, List}
use Rattle.std.specs.List.{flat_map, range_with_len}
use Rattle.amo_outcomes.specs.SenderFollowers.{HaveFollowedSenders}
use Rattle.amo_world.specs.declared.event.Event.{Event}
use Rattle.amo_telling.specs.Unanswered.{settled_line}
use Rattle.amo_telling.specs.Untold.{AreThose, IsSettledByNow}
use Rattle.amo_telling.proofs.untold.Untold.tell_settled_by_now.Given as goal

-- of those so far of which it is settled the lines were appended
abbrev pub invariant-streams : goal.invariant-streams
invariant-streams l = (streams : List ℕ)
    × ((past : List Event) → HaveFollowedSenders l.self.followers past → AreThose (IsSettledByNow l.self past l.doubts) (range_with_len 1 l.place) streams)
    × (l.text.items ≡ l.fn.text.items ++ flat_map (settled_line l.json) streams)
