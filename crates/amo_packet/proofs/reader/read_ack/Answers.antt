use Rattle.std.proofs.Common.{◌≡◌, get_or, arith}
use Rattle.amo_packet.specs.Grammar.{flag}
use Rattle.amo_packet.proofs.Fields.{ack_said}
use Rattle.amo_packet.proofs.reader.read_ack.Goals.{in-0, in-1}
use Rattle.amo_packet.proofs.reader.read_ack.Goals as goal

pub returns : goal.returns
returns c =
    let is : get_or c.args.fields.now 8 0 ≡ flag c.match-fields.got = elim c.match-fields.branch [ in-0 w ↦ rw w.got-is (omega arith) | in-1 w ↦ rw w.got-is (omega arith) ] in
    λ newest stream v small. ack_said newest stream c.read_u64.result c.match-fields.got c.args.fields.now v small c.read_u64.type_inv (λ i. omega (arith, c.type_inv.fields i)) (omega arith) c.read_u64.ensures is
