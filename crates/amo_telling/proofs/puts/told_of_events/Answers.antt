use Rattle.std.proofs.Common.{refl}
use Rattle.amo_telling.proofs.PutLines.{nothing_told}
use Rattle.amo_telling.specs.Outcomes.{by}
use Rattle.amo_telling.proofs.puts.told_of_events.Goals as goal

pub loop-event-init : goal.loop-event-init
loop-event-init c = (refl, nothing_told (by c.args.report.choice c.args.report.doubts.now) _ c.new-text.result.items c.args.events.now c.new-text.ensures.items)
