use Rattle.std.proofs.Common.{◌≡◌, ℕ, suc, ◌-◌, ◌+◌, ap, sym, ◌∙◌, arith}
use Rattle.amo_packet.specs.Fault.{first_of, message_faults}
use Rattle.amo_packet.proofs.reader.expect_messages.Goals as goal

pub returns-in_err-rest-clause-err : goal.returns-in_err-rest-clause-err
returns-in_err-rest-clause-err c =
    let rest = c.args.count - (c.loop.counter + 1) in
    let more : c.args.count - c.loop.counter ≡ suc rest = omega arith in
    let same : first_of (message_faults c.args.count c.args.bytes.now) ≡ first_of (message_faults (suc rest) c.loop.rest.now) =
    sym c.loop.invariant.1 ∙ ap (λ (n : ℕ). first_of (message_faults n c.loop.rest.now)) more in
    let fault = same ∙ c.in_err-rest.ensures.err rest in
    rw fault (grind (c.from_residual.ensures, arith))

pub loop-preserved : goal.loop-preserved
loop-preserved c =
    let left = c.args.count - c.loop.counter in
    let rest = c.args.count - (c.loop.counter + 1) in
    let more : left ≡ suc rest = omega arith in
    (omega arith, sym (c.in_ok-rest.ensures.ok rest) ∙ ap (λ (n : ℕ). first_of (message_faults n c.loop.rest.now)) (sym more) ∙ c.loop.invariant.1)
