use Rattle.amo_world.proofs.Serving.{event_moves}
use Rattle.amo_world.proofs.laws.events_move_the_queue_in_doubt.Goals as goal

pub returns-clause-events : goal.returns-clause-events
returns-clause-events c = event_moves
