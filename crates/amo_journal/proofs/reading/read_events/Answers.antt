use Rattle.std.proofs.Common.{sym, subst}
use Rattle.std.proofs.lemmas.Result.{IfOk-weaker}
use Rattle.amo_journal.specs.Journal.{AreEvents}
use Rattle.amo_journal.proofs.Further.{event_streams}
use Rattle.amo_journal.proofs.reading.read_events.Goals as goal

pub returns-clause-streams : goal.returns-clause-streams
returns-clause-streams c =
    IfOk-weaker c.read_into.result _ _ (λ taker (events, lines, is). event_streams c.args.lines.version c.args.lines.text.now taker.items (subst (λ es. AreEvents c.args.lines.version es c.args.lines.text.now) (sym is) lines)) c.read_into.ensures.taken
