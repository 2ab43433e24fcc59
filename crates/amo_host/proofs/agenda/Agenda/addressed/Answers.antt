use Rattle.std.proofs.Common.{ℕ, Option, Some, None, IfNone, Contains}
use Rattle.amo_packet.specs.Packet.{packet_of}
use Rattle.amo_window.proofs.Rising.{Contains-at_place}
use Rattle.amo_host.specs.Host.{IsFor, streams_of}
use Rattle.amo_host.proofs.agenda.Agenda.addressed.Goals as goal

if_none : (r : Option ℕ) (P Q : Type 0) → (P → Q) → IfNone r P → IfNone r Q
if_none None P Q follows p = follows p
if_none (Some x) P Q follows p = tt

-- a packet for a place bears the stream of a charge
pub returns-clause-absent : goal.returns-clause-absent
returns-clause-absent c =
    let h = c.args.self.now in
    let p = packet_of c.args.packet.now in
    if_none c.place_of.result (¬ (Contains (streams_of h.modes) p.stream)) ((place : ℕ) → ¬ (IsFor h place p))
    (λ absent place fits. absent (Contains-at_place (streams_of h.modes) place p.stream fits.stream)) c.place_of.ensures.absent
