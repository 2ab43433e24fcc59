-- What the first version of journals has lines for, each version has.
use Rattle.std.proofs.Common.{ℕ, arith}
use Rattle.amo_object.specs.declared.step.End.{End}
use Rattle.amo_object.specs.declared.step.End.TheVariants.{Sender, Receiver}
use Rattle.amo_packet.specs.declared.packet.OwnedPacket.{OwnedPacket}
use Rattle.amo_core.specs.declared.act.Act.{Act}
use Rattle.amo_core.specs.declared.act.Act.TheVariants as act
use Rattle.amo_journal.specs.declared.version.Version.{Version}
use Rattle.amo_journal.specs.declared.version.Version.TheVariants.{One, Two}
use Rattle.amo_journal.specs.Journal.{HasAct, IsPacketOf}

packet_in : (stream : ℕ) (p : OwnedPacket) → IsPacketOf One stream p → IsPacketOf Two stream p
packet_in stream p h = let first = h.version_is in record { version_is = omega arith; spellable = h.spellable; bytes = h.bytes; stream = h.stream }

pub act_in : (version : Version) (side : End) (stream : ℕ) (a : Act) → HasAct One side stream a → HasAct version side stream a
act_in One side stream a h = h
act_in Two Sender stream (act.Put m) h = h
act_in Two Sender stream act.Ack h = tt
act_in Two Sender stream act.Get h = absurd h
act_in Two Sender stream (act.Start word) h = h
act_in Two Sender stream (act.Batch word) h = absurd h.0
act_in Two Sender stream act.Resend h = tt
act_in Two Sender stream (act.Deliver packet word) h = (packet_in stream packet h.0, h.1)
act_in Two Sender stream act.Crash h = tt
act_in Two Sender stream act.Recover h = tt
act_in Two Receiver stream (act.Put m) h = absurd h
act_in Two Receiver stream act.Ack h = absurd h
act_in Two Receiver stream act.Get h = tt
act_in Two Receiver stream (act.Start word) h = absurd h
act_in Two Receiver stream (act.Batch word) h = absurd h
act_in Two Receiver stream act.Resend h = tt
act_in Two Receiver stream (act.Deliver packet word) h = (packet_in stream packet h.0, h.1)
act_in Two Receiver stream act.Crash h = tt
act_in Two Receiver stream act.Recover h = tt
