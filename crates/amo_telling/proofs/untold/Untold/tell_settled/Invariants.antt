use Rattle.std.proofs.Common.{◌≡◌, ◌++◌, ℕ, List, take}
use Rattle.std.specs.List.{flat_map}
use Rattle.amo_journal.specs.declared.numbered.Numbered.{Numbered}
use Rattle.amo_outcomes.specs.RightPuts.{ArePutsRight}
use Rattle.amo_telling.specs.Unanswered.{settled_line}
use Rattle.amo_telling.specs.Untold.{AreThose, HasRead, WasSentOn, events_of}
use Rattle.amo_telling.proofs.untold.Untold.tell_settled.Given as goal

-- of those of the streams so far on which one was sent the lines were appended
abbrev pub invariant-loop-stream : goal.invariant-loop-stream
invariant-loop-stream l = (streams : List ℕ)
    × ((next : ℕ) (past : List Numbered) → HasRead l.self next past → ArePutsRight (events_of past) → AreThose (WasSentOn (events_of past)) (take l.stream-index l.in_doubt) streams)
    × (l.text.items ≡ l.fn.text.items ++ flat_map (settled_line l.json) streams)
