use Rattle.std.proofs.Common.{refl}
use Rattle.matchit.proofs.OnLiterals.{matchit_on_literals}
use Rattle.amo_door.specs.Routes.{table, with_all}
use Rattle.amo_door.proofs.laws.paths_lead_to_places.Goals as goal

pub returns-clause-page : goal.returns-clause-page
unfolding matchit_on_literals table with_all
returns-clause-page c = record { route = _; first_is = refl; place_is = refl; stream_is = refl; number_is = refl }

pub returns-clause-health : goal.returns-clause-health
unfolding matchit_on_literals table with_all
returns-clause-health c = record { route = _; first_is = refl; place_is = refl; stream_is = refl; number_is = refl }

pub returns-clause-metrics : goal.returns-clause-metrics
unfolding matchit_on_literals table with_all
returns-clause-metrics c = record { route = _; first_is = refl; place_is = refl; stream_is = refl; number_is = refl }

pub returns-clause-host : goal.returns-clause-host
unfolding matchit_on_literals table with_all
returns-clause-host c = record { route = _; first_is = refl; place_is = refl; stream_is = refl; number_is = refl }

pub returns-clause-events : goal.returns-clause-events
unfolding matchit_on_literals table with_all
returns-clause-events c = record { route = _; first_is = refl; place_is = refl; stream_is = refl; number_is = refl }

pub returns-clause-stream : goal.returns-clause-stream
unfolding matchit_on_literals table with_all
returns-clause-stream c = record { route = _; first_is = refl; place_is = refl; stream_is = refl; number_is = refl }

pub returns-clause-messages : goal.returns-clause-messages
unfolding matchit_on_literals table with_all
returns-clause-messages c = record { route = _; first_is = refl; place_is = refl; stream_is = refl; number_is = refl }

pub returns-clause-message : goal.returns-clause-message
unfolding matchit_on_literals table with_all
returns-clause-message c = record { route = _; first_is = refl; place_is = refl; stream_is = refl; number_is = refl }

pub returns-clause-take : goal.returns-clause-take
unfolding matchit_on_literals table with_all
returns-clause-take c = record { route = _; first_is = refl; place_is = refl; stream_is = refl; number_is = refl }

pub returns-clause-got : goal.returns-clause-got
unfolding matchit_on_literals table with_all
returns-clause-got c = record { route = _; first_is = refl; place_is = refl; stream_is = refl; number_is = refl }
