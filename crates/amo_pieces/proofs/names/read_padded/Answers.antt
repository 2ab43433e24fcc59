use Rattle.std.proofs.Common.{arith}
use Rattle.amo_pieces.proofs.NumberedNames.{padded_six, padded_more, none_six, some_from}
use Rattle.amo_pieces.proofs.Starts.{none_weaker}
use Rattle.amo_pieces.proofs.names.read_padded.Goals as goal

pub returns-then-digits-gt-DIGITS-clause-found : goal.returns-then-digits-gt-DIGITS-clause-found
returns-then-digits-gt-DIGITS-clause-found c =
    some_from c.read_decimal.result _ _ _ (λ n is small. padded_more c.args.digits.now n c.if-digits-gt-DIGITS.true small is) c.read_decimal.ensures.found c.read_decimal.ensures.fits

pub returns-clause-found : goal.returns-clause-found
returns-clause-found c =
    let zeros = c.without_zeros.ensures.zeros in
    some_from c.read_decimal-2.result _ _ _ (λ n is small. padded_six c.args.digits.now c.without_zeros.result.now zeros.0 n (omega (arith, c.if-digits-lt-DIGITS.false, c.if-digits-gt-DIGITS.false)) zeros.1 c.without_zeros.ensures.behind small is) c.read_decimal-2.ensures.found c.read_decimal-2.ensures.fits

pub returns-clause-none : goal.returns-clause-none
returns-clause-none c =
    none_weaker c.read_decimal-2.result _ _ (λ none. none_six c.args.digits.now c.without_zeros.result.now c.without_zeros.ensures.zeros.0 c.without_zeros.ensures.zeros.1 c.without_zeros.ensures.behind none) c.read_decimal-2.ensures.none
