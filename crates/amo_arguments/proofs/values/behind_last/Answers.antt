use Rattle.std.proofs.Common.{◌∷◌, ◌++◌}
use Rattle.amo_arguments.proofs.Addresses.{further}
use Rattle.amo_arguments.proofs.values.behind_last.Goals as goal

pub bytes-preserved : goal.bytes-preserved
bytes-preserved c =
    let before = c.bytes.invariant in
    (before.0 ++ c.args.byte ∷ c.in-Some-cut._more.now, further c.args.byte c.args.text.now before.0 c.bytes.rest.now c.in-Some-cut._more.now c.in-Some-cut.further.now before.1 c.in-Some-cut.ensures.found.0)
