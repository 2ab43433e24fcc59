use Rattle.amo_world.proofs.Resolutions.{start_resolves, all_kept}
use Rattle.amo_world.proofs.Resolving.{resolves_before}
use Rattle.amo_world.proofs.Serving.{event_resolves}
use Rattle.amo_world.proofs.laws.doubts_resolve.Goals as goal

pub returns-clause-exists : goal.returns-clause-exists
returns-clause-exists c = all_kept

pub returns-clause-first : goal.returns-clause-first
returns-clause-first c = start_resolves

pub returns-clause-moves : goal.returns-clause-moves
returns-clause-moves c = resolves_before

pub returns-clause-events : goal.returns-clause-events
returns-clause-events c = event_resolves
