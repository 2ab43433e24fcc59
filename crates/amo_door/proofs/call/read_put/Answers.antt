use Rattle.std.proofs.Common.{refl}
use Rattle.std.proofs.lemmas.Result.{err_from_is_err_and}
use Rattle.amo_door.specs.declared.place.Method.TheVariants.{Put}
use Rattle.amo_door.specs.declared.place.Place.TheVariants.{Message}
use Rattle.amo_door.specs.declared.query.Parameter.TheVariants.{Life, By}
use Rattle.amo_door.specs.Query.{given_of}
use Rattle.amo_door.proofs.Blame.{of_value}
use Rattle.amo_door.proofs.call.read_put.Goals as goal

pub returns-in_err-life-clause-refused : goal.returns-in_err-life-clause-refused
returns-in_err-life-clause-refused c =
    let p = err_from_is_err_and c.from_residual-in_err-life.result c.from_residual-in_err-life.ensures.1 in
    rw (p.1, p.2) (of_value c.args.served Put Message c.args.found.now.stream.now c.args.found.now.number.now (given_of c.args.query.now) Life c.in_err-life.field-0.0 refl (c.in_err-life.ensures.refused c.args.served.side))

pub returns-in_err-by-clause-refused : goal.returns-in_err-by-clause-refused
returns-in_err-by-clause-refused c =
    let p = err_from_is_err_and c.from_residual-in_err-by.result c.from_residual-in_err-by.ensures.1 in
    rw (p.1, p.2) (of_value c.args.served Put Message c.args.found.now.stream.now c.args.found.now.number.now (given_of c.args.query.now) By c.in_err-by.field-0.0 refl (c.in_err-by.ensures.refused c.args.served.side))
