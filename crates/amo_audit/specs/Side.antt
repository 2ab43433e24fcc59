-- A side of a stream, as a merge keeps it: its automaton, and the set of the packets that it emitted.
use Rattle.std.specs.Prelude.{◌≡◌, ◌↔◌, List, IsTrue}
use Rattle.std.specs.List.{Contains}
use Rattle.std.specs.BTreeSet.{contains}
use Rattle.std.specs.declared.cmp.Ordering.{Ordering}
use Rattle.amo_packet.specs.declared.packet.OwnedPacket.{OwnedPacket}
use Rattle.amo_packet.specs.contracts.packet.OwnedPacketOrd.TheImpl as packet_order
use Rattle.amo_core.specs.declared.automaton.Automaton.{Automaton}
use Rattle.amo_audit.specs.declared.side.Side.{Side}

-- the order of packets
abbrev pub order : OwnedPacket → OwnedPacket → Ordering
order = packet_order.cmp-value.it

-- the side is in this state and emitted these packets
pub record Represents (kept : Side) (automaton : Automaton) (emitted : List OwnedPacket) : Type 0 where
  pub state : kept.automaton ≡ automaton
  pub known : (packet : OwnedPacket) → IsTrue (contains order kept.emitted packet) ↔ Contains emitted packet
