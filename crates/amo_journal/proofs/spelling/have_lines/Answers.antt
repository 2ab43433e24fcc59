use Rattle.std.proofs.Common.{arith}
use Rattle.std.proofs.lemmas.Bool.Decides.{nat_tests}
use Rattle.std.proofs.lemmas.List.Elements.{AllWithin-more, at_read}
use Rattle.amo_journal.specs.Journal.{CanSpell}
use Rattle.amo_journal.proofs.spelling.have_lines.Goals as goal

pub loop-event-preserved : goal.loop-event-preserved
loop-event-preserved c =
    let here : CanSpell c.args.version c.event-item.result = grind (arith, nat_tests) in
    AllWithin-more (CanSpell c.args.version) c.args.events.now 0 c.loop-event.event-index c.loop-event.invariant
    (at_read c.args.events.now (CanSpell c.args.version) c.loop-event.event-index c.event-item.result c.loop-event-test.true c.event-item.is here)
