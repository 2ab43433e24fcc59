-- What a sender's own events say of its puts: acks that came, and later messages that were sent.
use Rattle.std.specs.Prelude.{ℕ, ◌==◌, Bool, true, false, List, [], ◌∷◌, ◌++◌}
use Rattle.amo_object.specs.declared.step.End.{End}
use Rattle.amo_object.specs.declared.step.End.TheVariants.{Sender, Receiver}
use Rattle.amo_packet.specs.declared.packet.OwnedBody.{OwnedBody}
use Rattle.amo_packet.specs.declared.packet.OwnedBody.TheVariants as packet
use Rattle.amo_core.specs.declared.act.Act.{Act}
use Rattle.amo_core.specs.declared.act.Act.TheVariants as act
use Rattle.amo_core.specs.declared.sender.SenderMode.{SenderMode}
use Rattle.amo_core.specs.declared.sender.SenderMode.TheVariants as sending
use Rattle.amo_core.specs.Sender as sender
use Rattle.amo_world.specs.declared.event.Event.{Event}
use Rattle.amo_world.specs.Stream.{Stream}
use Rattle.amo_world.specs.History.{stream_after}
use Rattle.amo_outcomes.specs.Puts.{Handshake, Puts, sent_under, puts_after}

-- the puts of all handshakes that came to an identifier, in order
abbrev pub all_sent : List Handshake → List ℕ
all_sent [] = []
all_sent (h ∷ hs) = all_sent hs ++ h.puts

-- the puts that were got, as an ack says; and those of which it is settled what became of them, whatever that is
pub record Heard : Type 0 where
  pub got : List ℕ
  pub settled : List ℕ

-- nothing was heard yet
abbrev pub unheard : Heard
unheard = record { got = []; settled = [] }

-- an ack says that these puts were got, or that their identifier is not known
abbrev pub heard_ack : Bool → List ℕ → Heard → Heard
heard_ack true puts h = record h { got = h.got ++ puts }
heard_ack false puts h = record h { settled = h.settled ++ puts }

-- of what comes, an ack says something of the puts that travel under its identifier
abbrev pub heard_body : OwnedBody → List Handshake → Heard → Heard
heard_body (packet.Ack id got) sent h = heard_ack got (sent_under sent id) h
heard_body _ sent h = h

abbrev pub heard_act : Act → List Handshake → Heard → Heard
heard_act (act.Deliver p word) sent h = heard_body p.body sent h
heard_act _ sent h = h

-- a sender that is down hears nothing
abbrev pub hears : SenderMode → Act → List Handshake → Heard → Heard
hears sending.Down a sent h = h
hears _ a sent h = heard_act a sent h

-- once a message is sent under an identifier, all puts that were sent before it are settled
abbrev pub settles : SenderMode → SenderMode → List Handshake → Heard → Heard
settles (sending.NeedId jd asked) (sending.Send id load) sent h = record h { settled = all_sent sent }
settles _ _ sent h = h

-- by an act of the stream, of which the sender's alone count
abbrev pub heard_by : Stream → End → Act → Puts → Heard → Heard
heard_by s Sender a p h = settles s.sender.state.mode (sender.row s.sender.state a).state.mode p.sent (hears s.sender.state.mode a p.sent h)
heard_by s Receiver a p h = h

-- an event, if it is one of the stream
abbrev pub heard_if : Bool → Stream → Event → Puts → Heard → Heard
heard_if true s e p h = heard_by s e.side e.act p h
heard_if false s e p h = h

-- what was heard of the puts of the stream of a number, by a history
abbrev pub heard_after : ℕ → List Event → Heard
heard_after number [] = unheard
heard_after number (e ∷ past) =
    heard_if (number == e.stream) (stream_after number past) e (puts_after number past) (heard_after number past)
