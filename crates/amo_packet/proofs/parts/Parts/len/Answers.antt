use Rattle.std.proofs.Common.{arith}
use Rattle.amo_packet.proofs.Lending.{length-batch_of, lent_count}
use Rattle.amo_packet.proofs.parts.Parts.len.Goals as goal

pub returns-in-Spelt-clause-value : goal.returns-in-Spelt-clause-value
returns-in-Spelt-clause-value c =
    let all = length-batch_of c.args.self.now in
    let count = lent_count c.args.self.now _ _ c.in-Spelt.is in
    omega arith

pub returns-in-Spelt-clause-bounded : goal.returns-in-Spelt-clause-bounded
returns-in-Spelt-clause-bounded c =
    let most = c.args.self.now.most in
    let count = lent_count c.args.self.now _ _ c.in-Spelt.is in
    omega arith
