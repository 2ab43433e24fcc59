use Rattle.std.proofs.Common.{arith}
use Rattle.std.proofs.lemmas.Result.{err_from_is_err_and}
use Rattle.amo_packet.proofs.Faults.{needuid_misses}
use Rattle.amo_packet.proofs.Fields.{needuid_said}
use Rattle.amo_packet.proofs.reader.read_needuid.Goals as goal

pub returns-in_err-expect_length : goal.returns-in_err-expect_length
returns-in_err-expect_length c =
    let p = err_from_is_err_and c.from_residual.result c.from_residual.ensures.1 in
    rw (p.1, p.2) (λ newest stream one v. needuid_misses newest stream c.args.fields.now _ v c.in_err-expect_length.ensures.err)

pub returns : goal.returns
returns c = λ newest stream v small. needuid_said newest stream c.read_u64.result c.args.fields.now v small c.read_u64.type_inv (λ i. omega (arith, c.type_inv.fields i)) c.in_ok-expect_length.ensures.ok c.read_u64.ensures
