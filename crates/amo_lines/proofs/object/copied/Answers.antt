use Rattle.std.proofs.Common.{arith}
use Rattle.amo_lines.proofs.object.copied.Goals as goal

pub returns-in-Ok-clause-some : goal.returns-in-Ok-clause-some
returns-in-Ok-clause-some c = ((c.in-Ok.ensures.ok.1, rw c.in-Ok.ensures.ok.0 (λ k. omega (arith, c.type_inv.bytes k))), c.in-Ok.ensures.ok.0)
