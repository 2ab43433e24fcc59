use Rattle.std.proofs.lemmas.Result.{err_from_is_err_and}
use Rattle.amo_door.specs.declared.place.Place.TheVariants.{Events}
use Rattle.amo_door.specs.declared.query.Parameter.TheVariants.{After}
use Rattle.amo_door.specs.Query.{given_of}
use Rattle.amo_door.proofs.Blame.{of_option}
use Rattle.amo_door.proofs.call.read_events.Goals as goal

pub returns-in_err-after-clause-refused : goal.returns-in_err-after-clause-refused
returns-in_err-after-clause-refused c =
    let p = err_from_is_err_and c.from_residual.result c.from_residual.ensures.1 in
    rw (p.1, p.2) (λ served method stream number. of_option served method Events stream number (given_of c.args.query.now) After c.in_err-after.field-0.0 (c.in_err-after.ensures.refused served.side))
