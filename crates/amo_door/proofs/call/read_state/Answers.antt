use Rattle.std.proofs.lemmas.Result.{err_from_is_err_and}
use Rattle.amo_door.specs.declared.place.Place.TheVariants.{Stream}
use Rattle.amo_door.specs.declared.query.Parameter.TheVariants.{Wait}
use Rattle.amo_door.specs.Query.{given_of}
use Rattle.amo_door.proofs.Blame.{of_option}
use Rattle.amo_door.proofs.call.read_state.Goals as goal

pub returns-in_err-wait-clause-refused : goal.returns-in_err-wait-clause-refused
returns-in_err-wait-clause-refused c =
    let p = err_from_is_err_and c.from_residual-in_err-wait.result c.from_residual-in_err-wait.ensures.1 in
    rw (p.1, p.2) (λ method number. of_option c.args.served method Stream c.args.stream.now number (given_of c.args.query.now) Wait c.in_err-wait.field-0.0 (c.in_err-wait.ensures.refused c.args.served.side))
