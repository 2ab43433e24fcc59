use Rattle.amo_outcomes.proofs.OpenEvents.{open_brings, open_right}
use Rattle.amo_outcomes.proofs.laws.open_events_bring_a_sender_back.Goals as goal

pub returns-clause-brings : goal.returns-clause-brings
returns-clause-brings c = λ number events right up. open_brings number events right up

pub returns-clause-right : goal.returns-clause-right
returns-clause-right c = λ number events right up. open_right number events right up
