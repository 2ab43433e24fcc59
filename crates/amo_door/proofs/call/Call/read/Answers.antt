use Rattle.std.proofs.lemmas.Result.{IfOk-weaker}
use Rattle.amo_door.specs.Call.{Asks, AsksAt}
use Rattle.amo_door.proofs.call.Call.read.Goals as goal

pub returns-in-Some-clause-ok : goal.returns-in-Some-clause-ok
returns-in-Some-clause-ok c =
    IfOk-weaker c.read_at.result (AsksAt c.args.served c.args.method c.in-Some.found c.split.result.1.now) (Asks c.args.routes.now c.args.served c.args.method c.args.target.now)
    (λ call h. record { path = c.split.result.0.now; query = c.split.result.1.now; found = c.in-Some.found; target_is = c.split.ensures; found_is = c.in-Some.ensures.some; asks = h })
    c.read_at.ensures.ok
