use Rattle.std.proofs.Common.{arith}
use Rattle.amo_door.specs.declared.query.Parameter.{Parameter}
use Rattle.amo_door.specs.Call.{strays}
use Rattle.amo_door.specs.Query.{given_of}
use Rattle.amo_door.proofs.Blame.{each_parameter}
use Rattle.amo_door.proofs.call.check_strays.Goals as goal

pub returns-clause-ok : goal.returns-clause-ok
returns-clause-ok c =
    each_parameter (λ (p : Parameter). strays c.args.method c.args.place (given_of c.args.query.now) p)
    (λ k h. c.loop-parameter.invariant k (omega arith))
