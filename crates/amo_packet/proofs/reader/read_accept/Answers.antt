use Rattle.std.proofs.Common.{ap, ◌∙◌, arith}
use Rattle.std.proofs.lemmas.List.{take_rest}
use Rattle.std.proofs.lemmas.Result.{err_from_is_err_and}
use Rattle.byteorder.specs.Endian.{big_number}
use Rattle.amo_packet.proofs.Faults.{accept_misses}
use Rattle.amo_packet.proofs.Fields.{accept_said}
use Rattle.amo_packet.proofs.reader.read_accept.Goals as goal

pub returns-in_err-expect_length : goal.returns-in_err-expect_length
returns-in_err-expect_length c =
    let p = err_from_is_err_and c.from_residual.result c.from_residual.ensures.1 in
    rw (p.1, p.2) (λ newest stream one v. accept_misses newest stream c.args.fields.now _ v c.in_err-expect_length.ensures.err)

pub returns : goal.returns
returns c = λ newest stream v small. accept_said newest stream c.read_u64-jd.result c.read_u64-id.result c.args.fields.now v small c.read_u64-jd.type_inv c.read_u64-id.type_inv (λ i. omega (arith, c.type_inv.fields i)) c.in_ok-expect_length.ensures.ok c.read_u64-jd.ensures (c.read_u64-id.ensures ∙ ap (big_number 8) (take_rest c.args.fields.now 8))
