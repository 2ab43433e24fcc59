use Rattle.std.proofs.Common.{arith}
use Rattle.amo_live.proofs.calls.are_bytes.Goals as goal

pub returns : goal.returns
returns c = (c.requires, λ i. omega (arith, c.type_inv.bytes i))
