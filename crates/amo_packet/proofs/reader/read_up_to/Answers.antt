use Rattle.std.proofs.Common.{◌≡◌, ℕ, Some, drop, subst, sym, ap, ◌∙◌, arith}
use Rattle.std.proofs.lemmas.Bool.Decides.{nat_tests}
use Rattle.std.proofs.lemmas.List.{take_rest}
use Rattle.std.proofs.lemmas.Result.{err_from_is_err_and}
use Rattle.byteorder.specs.Endian.{big_number}
use Rattle.amo_packet.specs.declared.fault.ReadFault.TheVariants.{Short}
use Rattle.amo_packet.specs.Packet.{packet_of, body_of}
use Rattle.amo_packet.specs.Grammar.{Spells}
use Rattle.amo_packet.specs.Fault.{first_fault}
use Rattle.amo_packet.proofs.Faults.{spelt_bytes_have_no_fault}
use Rattle.amo_packet.proofs.Spellings.{Spells-unique}
use Rattle.amo_packet.proofs.reader.read_up_to.Goals as goal

too_short : (c : goal.Then-bytes-lt-HEADER_LENGTH) → first_fault c.args.newest c.args.bytes.now ≡ Some Short
unfolding first_fault
too_short c = grind (arith, nat_tests)

pub returns-then-bytes-lt-HEADER_LENGTH-clause-complete : goal.returns-then-bytes-lt-HEADER_LENGTH-clause-complete
returns-then-bytes-lt-HEADER_LENGTH-clause-complete c = λ q s. spelt_bytes_have_no_fault c.args.newest c.args.bytes.now Short q (too_short c) s

pub returns-in_err-body-clause-complete : goal.returns-in_err-body-clause-complete
returns-in_err-body-clause-complete c =
    let p = err_from_is_err_and c.from_residual.result c.from_residual.ensures.1 in
    rw p.1 (λ q s. spelt_bytes_have_no_fault c.args.newest c.args.bytes.now _ q c.in_err-body.ensures s)

abbrev spelt : (c : goal.In_ok-body) → Spells c.args.newest c.args.bytes.now (packet_of (record { stream = c.read_u32-stream.result; body = c.in_ok-body.body }))
spelt c =
    let stream : c.read_u32-stream.result ≡ big_number 4 (drop 4 c.args.bytes.now) = c.read_u32-stream.ensures ∙ ap (big_number 4) (take_rest c.args.bytes.now 4) in
    subst (λ (n : ℕ). Spells c.args.newest c.args.bytes.now (record { stream = n; body = body_of c.in_ok-body.body })) (sym stream) c.in_ok-body.ensures

pub returns-clause-complete : goal.returns-clause-complete
returns-clause-complete c = λ q s. Spells-unique c.args.newest c.args.newest c.args.bytes.now _ q (spelt c) s

pub returns-clause-fault : goal.returns-clause-fault
returns-clause-fault c = λ f. (λ e. absurd cc, λ e. absurd (spelt_bytes_have_no_fault c.args.newest c.args.bytes.now f _ e (spelt c)))
