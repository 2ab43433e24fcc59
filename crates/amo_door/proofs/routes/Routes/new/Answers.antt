use Rattle.std.proofs.Common.{◌∙◌, ap}
use Rattle.amo_door.specs.Routes.{table, with_all}
use Rattle.amo_door.proofs.routes.Routes.new.Goals as goal

pub returns : goal.returns
unfolding table
returns c = c.in_ok-add_all.ensures ∙ ap with_all c.new-router.ensures
