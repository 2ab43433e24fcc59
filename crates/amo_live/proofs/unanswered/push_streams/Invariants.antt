use Rattle.std.specs.Prelude.{◌≡◌, ◌++◌, take}
use Rattle.amo_live.specs.Unanswered.{text_of}
use Rattle.amo_live.proofs.unanswered.push_streams.Given as goal

-- those of the streams so far were appended
abbrev pub invariant-streams : goal.invariant-streams
invariant-streams l = l.text.items ≡ l.fn.text.items ++ text_of (take l.lines-index l.streams)
