use Rattle.std.proofs.lemmas.Result.{err_from_is_err_and}
use Rattle.amo_door.specs.declared.place.Place.TheVariants.{Got}
use Rattle.amo_door.specs.declared.query.Parameter.TheVariants.{After}
use Rattle.amo_door.specs.Query.{given_of}
use Rattle.amo_door.proofs.Blame.{of_option}
use Rattle.amo_door.proofs.call.read_got.Goals as goal

pub returns-in_err-after-clause-refused : goal.returns-in_err-after-clause-refused
returns-in_err-after-clause-refused c =
    let p = err_from_is_err_and c.from_residual-in_err-after.result c.from_residual-in_err-after.ensures.1 in
    rw (p.1, p.2) (λ method number. of_option c.args.served method Got c.args.stream.now number (given_of c.args.query.now) After c.in_err-after.field-0.0 (c.in_err-after.ensures.refused c.args.served.side))
