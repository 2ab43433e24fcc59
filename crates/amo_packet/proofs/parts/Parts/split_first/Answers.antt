use Rattle.std.proofs.Common.{arith}
use Rattle.amo_packet.proofs.Lending.{lent_count}
use Rattle.amo_packet.proofs.parts.Parts.split_first.Goals as goal

pub split_spelt-requires-clause-most : goal.split_spelt-requires-clause-most
split_spelt-requires-clause-most c =
    let most = c.args.self.now.most in
    let count = lent_count c.args.self.now _ _ c.in-Spelt.is in
    omega arith
