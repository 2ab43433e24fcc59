-- A row of a table: what an act leaves, replies and emits.
use Rattle.std.specs.Prelude.{Option, None, Some}
use Rattle.amo_packet.specs.declared.packet.OwnedPacket.{OwnedPacket}
use Rattle.amo_core.specs.declared.reply.Reply.{Reply}
use Rattle.amo_core.specs.declared.reply.Reply.TheVariants.{Done}

-- the state after the act; the reply, or none where the side does not have the act; the packet emitted, if any
pub record Row (S : Type 0) : Type 0 where
  pub state : S
  pub reply : Option Reply
  pub emitted : Option OwnedPacket

module _ {S : Type 0} where
  -- a reply, and nothing emitted
  abbrev pub silent : S → Reply → Row S
  silent s reply = record { state = s; reply = Some reply; emitted = None }

  -- an act of the host, with the packet emitted, if any
  abbrev pub done : S → Option OwnedPacket → Row S
  done s emitted = record { state = s; reply = Some Done; emitted = emitted }

  -- the side does not have this act
  abbrev pub unknown : S → Row S
  unknown s = record { state = s; reply = None; emitted = None }
