-- What a mode means to a host.
use Rattle.std.specs.Prelude.{Bool, true, false}
use Rattle.amo_core.specs.declared.act.Act.{Act}
use Rattle.amo_core.specs.declared.act.Act.TheVariants.{Start, Batch}
use Rattle.amo_core.specs.declared.mode.Mode.{Mode}
use Rattle.amo_core.specs.declared.mode.Mode.TheVariants.{Quiet, NeedId, Send, Idle, Accept, Ack, Down}

-- a handshake is open, and holds a permit
abbrev pub is_open : Mode → Bool
is_open NeedId = true
is_open Send = true
is_open _ = false

-- a handshake opens by a start at rest alone, of one message or of a batch
abbrev pub MayOpen : Act → Mode → Type 0
MayOpen (Start word) Quiet = Unit {0}
MayOpen (Batch word) Quiet = Unit {0}
MayOpen _ _ = ⊥

-- the stream has a timer: all modes but those at rest and down
abbrev pub is_timed : Mode → Bool
is_timed Quiet = false
is_timed Idle = false
is_timed Down = false
is_timed _ = true

-- A side in this mode waits for its peer, and has a packet to send again until it hears of it. One that holds a message waits for its client.
abbrev pub waits : Mode → Bool
waits NeedId = true
waits Send = true
waits Accept = true
waits Ack = true
waits _ = false
