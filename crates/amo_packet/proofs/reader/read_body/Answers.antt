use Rattle.std.proofs.Common.{◌≡◌, ◌∙◌, ap, sym, drop, ℕ, List, ◌++◌, arith}
use Rattle.std.proofs.lemmas.List.{take_rest}
use Rattle.byteorder.specs.Endian.{big_bytes, big_number}
use Rattle.amo_packet.specs.Fault.{first_fault}
use Rattle.amo_packet.proofs.Fields.{header_read, start_known}
use Rattle.amo_packet.proofs.reader.read_body.Goals as goal

pub returns-in-1095565569 : goal.returns-in-1095565569
returns-in-1095565569 c = start_known c.args.newest 1 1 c.args.bytes.now _ c.read_needuid.result (omega arith) (omega arith) (omega arith) (λ i. omega (arith, c.type_inv.bytes i)) (ap (big_bytes 4) (sym c.read_u32-start.ensures ∙ c.in-1095565569.is)) (take_rest c.args.bytes.now 8) c.read_needuid.ensures

pub returns-in-1095565570 : goal.returns-in-1095565570
returns-in-1095565570 c = start_known c.args.newest 1 2 c.args.bytes.now _ c.read_accept.result (omega arith) (omega arith) (omega arith) (λ i. omega (arith, c.type_inv.bytes i)) (ap (big_bytes 4) (sym c.read_u32-start.ensures ∙ c.in-1095565570.is)) (take_rest c.args.bytes.now 8) c.read_accept.ensures

pub returns-in-1095565571 : goal.returns-in-1095565571
returns-in-1095565571 c = start_known c.args.newest 1 3 c.args.bytes.now _ c.read_send.result (omega arith) (omega arith) (omega arith) (λ i. omega (arith, c.type_inv.bytes i)) (ap (big_bytes 4) (sym c.read_u32-start.ensures ∙ c.in-1095565571.is)) (take_rest c.args.bytes.now 8) c.read_send.ensures

pub returns-in-1095565572 : goal.returns-in-1095565572
returns-in-1095565572 c = start_known c.args.newest 1 4 c.args.bytes.now _ c.read_ack.result (omega arith) (omega arith) (omega arith) (λ i. omega (arith, c.type_inv.bytes i)) (ap (big_bytes 4) (sym c.read_u32-start.ensures ∙ c.in-1095565572.is)) (take_rest c.args.bytes.now 8) c.read_ack.ensures

pub returns-in-1095565573 : goal.returns-in-1095565573
returns-in-1095565573 c = start_known c.args.newest 1 5 c.args.bytes.now _ c.read_cleanup.result (omega arith) (omega arith) (omega arith) (λ i. omega (arith, c.type_inv.bytes i)) (ap (big_bytes 4) (sym c.read_u32-start.ensures ∙ c.in-1095565573.is)) (take_rest c.args.bytes.now 8) c.read_cleanup.ensures

pub returns-in-1095565830 : goal.returns-in-1095565830
returns-in-1095565830 c = start_known c.args.newest 2 6 c.args.bytes.now _ c.read_batch.result (omega arith) (omega arith) (omega arith) (λ i. omega (arith, c.type_inv.bytes i)) (ap (big_bytes 4) (sym c.read_u32-start.ensures ∙ c.in-1095565830.is)) (take_rest c.args.bytes.now 8) c.read_batch.ensures

pub returns-in_default : goal.returns-in_default
returns-in_default c =
    let bytes = c.args.bytes.now in
    let start : big_bytes 4 (big_number 4 bytes) ≡ big_bytes 4 c.read_u32-start.result = ap (big_bytes 4) (sym c.read_u32-start.ensures) in
    let stream = big_number 4 (drop 4 bytes) in
    ap (first_fault c.args.newest) (header_read bytes (omega arith) (λ i. omega (arith, c.type_inv.bytes i)) ∙ ap (λ (xs : List ℕ). xs ++ big_bytes 4 stream ++ drop 8 bytes) start)
    ∙ c.start_fault.ensures stream (drop 8 bytes)
