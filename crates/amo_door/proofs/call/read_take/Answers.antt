use Rattle.std.proofs.Common.{refl}
use Rattle.std.proofs.lemmas.Result.{err_from_is_err_and}
use Rattle.amo_door.specs.declared.place.Place.TheVariants.{Take}
use Rattle.amo_door.specs.declared.query.Parameter.TheVariants.{Life, By, Number, Wait}
use Rattle.amo_door.specs.Query.{given_of}
use Rattle.amo_door.proofs.Blame.{of_option, of_value}
use Rattle.amo_door.proofs.call.read_take.Goals as goal

pub returns-in_err-number-clause-refused : goal.returns-in_err-number-clause-refused
returns-in_err-number-clause-refused c =
    let p = err_from_is_err_and c.from_residual-in_err-number.result c.from_residual-in_err-number.ensures.1 in
    rw (p.1, p.2) (λ method number. of_value c.args.served method Take c.args.stream.now number (given_of c.args.query.now) Number c.in_err-number.field-0.0 refl (c.in_err-number.ensures.refused c.args.served.side))

pub returns-in_err-life-clause-refused : goal.returns-in_err-life-clause-refused
returns-in_err-life-clause-refused c =
    let p = err_from_is_err_and c.from_residual-in_err-life.result c.from_residual-in_err-life.ensures.1 in
    rw (p.1, p.2) (λ method number. of_value c.args.served method Take c.args.stream.now number (given_of c.args.query.now) Life c.in_err-life.field-0.0 refl (c.in_err-life.ensures.refused c.args.served.side))

pub returns-in_err-by-clause-refused : goal.returns-in_err-by-clause-refused
returns-in_err-by-clause-refused c =
    let p = err_from_is_err_and c.from_residual-in_err-by.result c.from_residual-in_err-by.ensures.1 in
    rw (p.1, p.2) (λ method number. of_value c.args.served method Take c.args.stream.now number (given_of c.args.query.now) By c.in_err-by.field-0.0 refl (c.in_err-by.ensures.refused c.args.served.side))

pub returns-in_err-wait-clause-refused : goal.returns-in_err-wait-clause-refused
returns-in_err-wait-clause-refused c =
    let p = err_from_is_err_and c.from_residual-in_err-wait.result c.from_residual-in_err-wait.ensures.1 in
    rw (p.1, p.2) (λ method number. of_option c.args.served method Take c.args.stream.now number (given_of c.args.query.now) Wait c.in_err-wait.field-0.0 (c.in_err-wait.ensures.refused c.args.served.side))
