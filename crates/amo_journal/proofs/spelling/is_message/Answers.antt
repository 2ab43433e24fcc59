use Rattle.std.proofs.Common.{arith}
use Rattle.std.proofs.lemmas.Bool.Decides.{nat_tests}
use Rattle.hex.specs.Hex.{IsBytes}
use Rattle.amo_journal.proofs.spelling.is_message.Goals as goal

pub returns : goal.returns
returns c =
    let bytes : IsBytes c.args.bytes.now = (λ i. omega (arith, c.type_inv.bytes i)) in
    grind (arith, nat_tests)
