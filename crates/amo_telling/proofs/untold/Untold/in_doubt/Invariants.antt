use Rattle.std.proofs.Common.{ℕ, List}
use Rattle.std.specs.List.{range_with_len}
use Rattle.amo_journal.specs.declared.numbered.Numbered.{Numbered}
use Rattle.amo_outcomes.specs.RightPuts.{ArePutsRight}
use Rattle.amo_telling.specs.Untold.{AreThose, HasRead, IsInDoubt, events_of}
use Rattle.amo_telling.proofs.untold.Untold.in_doubt.Given as goal

-- those so far
abbrev pub invariant-streams : goal.invariant-streams
invariant-streams l = (next : ℕ) (past : List Numbered) → HasRead l.self next past → ArePutsRight (events_of past)
    → AreThose (IsInDoubt l.self (events_of past) l.doubts l.before) (range_with_len 1 l.place) l.streams.items
