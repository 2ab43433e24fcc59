use Rattle.std.proofs.Common.{[], ◌∷◌, suc}
use Rattle.amo_pieces.proofs.NumberedNames.{begun, one_zero}
use Rattle.amo_pieces.proofs.names.without_zeros.Goals as goal

pub loop-rest-preserved : goal.loop-rest-preserved
loop-rest-preserved c =
    let zeros = c.loop-rest.invariant in
    (suc zeros.0, one_zero c.args.digits.now c.loop-rest.rest.now zeros.0 zeros.1 (begun (48 ∷ []) c.loop-rest.rest.now c.starts_with.result c.starts_with.ensures.value c.loop-rest-test.true))
