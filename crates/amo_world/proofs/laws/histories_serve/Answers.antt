use Rattle.amo_world.proofs.Serving.{serves}
use Rattle.amo_world.proofs.laws.histories_serve.Goals as goal

pub returns : goal.returns
returns c = serves
