-- Where the puts of a stream are. A put is a number, counted from 0 in the order in which puts were taken. So equal messages are told apart:
-- a put travels under the identifier of the handshake that carries it.
use Rattle.std.specs.Prelude.{ℕ, ◌==◌, ◌+◌, Bool, true, false, if◌then◌else◌, Option, Some, List, [], ◌∷◌, ◌++◌, length, take, drop}
use Rattle.amo_object.specs.declared.step.End.{End}
use Rattle.amo_object.specs.declared.step.End.TheVariants.{Sender, Receiver}
use Rattle.amo_core.specs.declared.act.Act.{Act}
use Rattle.amo_core.specs.declared.act.Act.TheVariants as act
use Rattle.amo_core.specs.declared.reply.Reply.{Reply}
use Rattle.amo_core.specs.declared.reply.Reply.TheVariants as reply
use Rattle.amo_core.specs.declared.sender.SenderMode.{SenderMode}
use Rattle.amo_core.specs.declared.sender.SenderMode.TheVariants as sending
use Rattle.amo_core.specs.declared.receiver.ReceiverMode.{ReceiverMode}
use Rattle.amo_core.specs.declared.receiver.ReceiverMode.TheVariants as receiving
use Rattle.amo_core.specs.Sender as sender
use Rattle.amo_core.specs.Receiver as receiver
use Rattle.amo_world.specs.declared.event.Event.{Event}
use Rattle.amo_world.specs.Stream.{Stream, reply_of}
use Rattle.amo_world.specs.History.{stream_after}

-- a handshake that came to an identifier, and the puts whose messages travel under it
pub record Handshake : Type 0 where
  pub id : ℕ
  pub puts : List ℕ

-- how many puts were taken; those that wait at the sender; those of the handshake that the sender began last; the handshakes that came to
-- an identifier, the newest first; the puts that the receiver holds for its client; and those that gets answered, the oldest first
pub record Puts : Type 0 where
  pub count : ℕ
  pub waiting : List ℕ
  pub carried : List ℕ
  pub sent : List Handshake
  pub held : List ℕ
  pub got : List ℕ

-- no put was taken yet
abbrev pub none : Puts
none = record { count = 0; waiting = []; carried = []; sent = []; held = []; got = [] }

-- the puts whose messages travel under an identifier
abbrev pub sent_under : List Handshake → ℕ → List ℕ
sent_under [] id = []
sent_under (h ∷ hs) id = if h.id == id then h.puts else sent_under hs id

-- a client's call: a put that is taken waits, after the others; a get that answers a message answers the first put that is held
abbrev pub called : Act → Option Reply → Puts → Puts
called (act.Put m) (Some reply.Ok) p = record p { count = p.count + 1; waiting = p.waiting ++ p.count ∷ [] }
called act.Get (Some (reply.Got m)) p = record p { held = drop 1 p.held; got = p.got ++ take 1 p.held }
called _ _ p = p

-- the sender begins a handshake for the first puts that wait, sends what it carries under an identifier, or goes down and forgets
abbrev pub sender_moved : SenderMode → SenderMode → Puts → Puts
sender_moved (sending.Quiet got) (sending.NeedId jd load) p =
    let many = length (sender.messages_in load) in record p { waiting = drop many p.waiting; carried = take many p.waiting }
sender_moved (sending.NeedId jd load) (sending.Send id sent) p = record p { sent = record { id = id; puts = p.carried } ∷ p.sent }
sender_moved _ sending.Down p = record p { waiting = [] }
sender_moved _ _ p = p

-- the receiver takes what came under an identifier, or goes down and forgets
abbrev pub receiver_moved : ReceiverMode → ReceiverMode → Puts → Puts
receiver_moved (receiving.Accept jd accepted) (receiving.Rcvd id b) p = record p { held = sent_under p.sent id }
receiver_moved _ receiving.Down p = record p { held = [] }
receiver_moved _ _ p = p

-- an act at a side of the stream, by its row
abbrev pub acted : Stream → End → Act → Puts → Puts
acted s Sender a p = sender_moved s.sender.state.mode (sender.row s.sender.state a).state.mode (called a (reply_of s Sender a) p)
acted s Receiver a p = receiver_moved s.receiver.state.mode (receiver.row s.receiver.state a).state.mode (called a (reply_of s Receiver a) p)

-- an event, if it is one of the stream
abbrev pub acted_if : Bool → Stream → Event → Puts → Puts
acted_if true s e p = acted s e.side e.act p
acted_if false s e p = p

-- the puts of the stream of a number after a history
abbrev pub puts_after : ℕ → List Event → Puts
puts_after number [] = none
puts_after number (e ∷ past) = acted_if (number == e.stream) (stream_after number past) e (puts_after number past)
