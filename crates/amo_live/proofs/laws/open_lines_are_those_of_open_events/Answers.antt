use Rattle.amo_live.proofs.OpenEvents.{open_lines_at, open_lines_events}
use Rattle.amo_live.proofs.laws.open_lines_are_those_of_open_events.Goals as goal

pub returns-clause-events : goal.returns-clause-events
returns-clause-events c = λ first standing stream history. open_lines_events first standing stream history

pub returns-clause-places : goal.returns-clause-places
returns-clause-places c = λ first standing stream history. open_lines_at first standing stream history
