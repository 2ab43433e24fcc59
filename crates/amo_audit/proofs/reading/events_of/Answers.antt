use Rattle.std.proofs.Common.{List, sym, subst}
use Rattle.std.proofs.lemmas.Result.{IfOk-weaker}
use Rattle.amo_world.specs.declared.event.Event.{Event}
use Rattle.amo_journal.specs.Lines.{Tell}
use Rattle.amo_audit.proofs.Judged.{told_streams}
use Rattle.amo_audit.proofs.reading.events_of.Goals as goal

pub returns-clause-streams : goal.returns-clause-streams
returns-clause-streams c = IfOk-weaker c.take_told.result _ _ (λ taker (events, told, is). told_streams c.args.lines taker.items (subst (λ (es : List Event). Tell es c.args.lines) (sym is) told)) c.take_told.ensures.taken
