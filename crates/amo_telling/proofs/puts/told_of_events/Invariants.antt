use Rattle.std.proofs.Common.{◌≡◌, take}
use Rattle.amo_telling.specs.Outcomes.{by}
use Rattle.amo_telling.specs.Told.{HasTold}
use Rattle.amo_telling.proofs.puts.told_of_events.Given as goal

-- the events so far were told of
abbrev pub invariant-loop-event : goal.invariant-loop-event
invariant-loop-event l = (l.number ≡ l.event-index) × HasTold (by l.fn.report.choice l.fn.report.doubts.now) l.fn.listing l.counts l.text.items (take l.event-index l.events)
