use Rattle.std.proofs.Common.{arith}
use Rattle.amo_journal.proofs.Packets.{packet_spelt}
use Rattle.amo_journal.proofs.Versions.{two_at_most}
use Rattle.amo_journal.proofs.act_reader.owned_packet.Goals as goal

pub returns-in_default-clause-none : goal.returns-in_default-clause-none
returns-in_default-clause-none c = λ p known e. c.in_default.ensures.complete p (record { version = two_at_most p.body; fits = known.0; exact = e })

pub returns-clause-found : goal.returns-clause-found
returns-clause-found c = packet_spelt 2 c.args.bytes.now _ _ (λ i. omega (arith, c.type_inv.bytes i)) c.in-Ok.ensures.found c.in_ok-copied.ensures.ok
