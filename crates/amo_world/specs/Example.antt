-- Worked examples: short stories, each a list of lines. A line is an event, with the packet that it emits, if any.
use Rattle.std.specs.Prelude.{◌≡◌, ℕ, true, false, Option, None, Some, List, [], ◌∷◌, ◌++◌, map, reverse, drop}
use Rattle.std.specs.List.{filter_map}
use Rattle.amo_object.specs.declared.step.End.{End}
use Rattle.amo_object.specs.declared.step.End.TheVariants.{Sender, Receiver}
use Rattle.amo_packet.specs.declared.packet.OwnedPacket.{OwnedPacket}
use Rattle.amo_packet.specs.declared.packet.OwnedBody.{OwnedBody}
use Rattle.amo_packet.specs.declared.packet.OwnedBody.TheVariants.{NeedUid, Accept, Send, Ack, Cleanup}
use Rattle.amo_core.specs.declared.act.Act.{Act}
use Rattle.amo_core.specs.declared.act.Act.TheVariants as act
use Rattle.amo_core.specs.declared.reply.Reply.{Reply}
use Rattle.amo_core.specs.declared.reply.Reply.TheVariants as reply
use Rattle.amo_world.specs.declared.event.Event.{Event}
use Rattle.amo_object.specs.declared.step.Step.{Step}
use Rattle.amo_object.specs.declared.step.Step.TheVariants as step
use Rattle.amo_object.specs.Run.{IsRun, without_losses}
use Rattle.amo_world.specs.declared.emission.Emission.{Emission}
use Rattle.amo_world.specs.History.{event_emission, emissions, IsRight, IsHonest, IsFresh}
use Rattle.amo_world.specs.Served.{calls}

-- an event, and what it emits
pub record Line : Type 0 where
  pub event : Event
  pub emission : Option Emission

-- an act at a side of a stream, under pass 0, which emits nothing
abbrev pub line_of : End → ℕ → Act → Reply → Line
line_of side stream a r = record { event = record { pass = 0; side = side; stream = stream; act = a; reply = r }; emission = None }

-- a packet of stream 1
abbrev pub of_stream_1 : OwnedBody → OwnedPacket
of_stream_1 body = record { stream = 1; body = body }

-- the line emits this packet
infix 70 ◌emits◌
abbrev pub ◌emits◌ : Line → OwnedBody → Line
line emits body = record line { emission = Some (record { side = line.event.side; packet = of_stream_1 body }) }

-- the acts of the stories: what the clients call, and what the hosts do
abbrev pub put : List ℕ → Line
put m = line_of Sender 1 (act.Put m) reply.Ok

abbrev pub put_while_down : List ℕ → Line
put_while_down m = line_of Sender 1 (act.Put m) reply.Down

abbrev pub ack : Reply → Line
ack given = line_of Sender 1 act.Ack given

abbrev pub get : Reply → Line
get given = line_of Receiver 1 act.Get given

abbrev pub start : ℕ → Line
start word = line_of Sender 1 (act.Start word) reply.Done

-- a delivery to the receiver, with the word for an accept, or to the sender
abbrev pub to_receiver : OwnedBody → ℕ → Line
to_receiver body word = line_of Receiver 1 (act.Deliver (of_stream_1 body) word) reply.Done

abbrev pub to_sender : OwnedBody → Line
to_sender body = line_of Sender 1 (act.Deliver (of_stream_1 body) 0) reply.Done

abbrev pub resend : End → Line
resend side = line_of side 1 act.Resend reply.Done

abbrev pub crash : End → Line
crash side = line_of side 1 act.Crash reply.Done

abbrev pub recover : End → Line
recover side = line_of side 1 act.Recover reply.Done

-- the messages `a`, `b` and `hi`
abbrev pub letter_a : List ℕ
letter_a = 97 ∷ []

abbrev pub letter_b : List ℕ
letter_b = 98 ∷ []

abbrev pub hi : List ℕ
hi = 104 ∷ 105 ∷ []

-- the sender asks for an identifier
abbrev pub first_needuid : List Line
first_needuid =
    put letter_a ∷
    start 7 emits NeedUid 7 ∷
    []

abbrev pub first_needuid_run : List Step
first_needuid_run = step.Put letter_a ∷ []

-- a whole handshake, for the message of no bytes
abbrev pub handshake : List Line
handshake =
    put [] ∷
    start 7 emits NeedUid 7 ∷
    to_receiver (NeedUid 7) 9 emits Accept 7 9 ∷
    to_sender (Accept 7 9) emits Send 9 [] ∷
    to_receiver (Send 9 []) 0 ∷
    get (reply.Got []) ∷
    resend Receiver emits Ack 9 true ∷
    to_sender (Ack 9 true) emits Cleanup 9 ∷
    to_receiver (Cleanup 9) 0 ∷
    ack reply.Yes ∷
    []

abbrev pub handshake_run : List Step
handshake_run = step.Put [] ∷ step.Get [] ∷ step.Ack true ∷ []

-- the message comes again before it is got, after it was got, and after the cleanup: it is got once
abbrev pub send_repeated : List Line
send_repeated =
    put hi ∷
    start 7 emits NeedUid 7 ∷
    to_receiver (NeedUid 7) 9 emits Accept 7 9 ∷
    to_sender (Accept 7 9) emits Send 9 hi ∷
    to_receiver (Send 9 hi) 0 ∷
    to_receiver (Send 9 hi) 0 ∷
    get (reply.Got hi) ∷
    to_receiver (Send 9 hi) 0 emits Ack 9 true ∷
    to_sender (Ack 9 true) emits Cleanup 9 ∷
    to_receiver (Cleanup 9) 0 ∷
    to_receiver (Send 9 hi) 0 emits Ack 9 false ∷
    to_sender (Ack 9 false) ∷
    ack reply.Yes ∷
    get reply.Nothing ∷
    []

abbrev pub send_repeated_run : List Step
send_repeated_run = step.Put hi ∷ step.Get hi ∷ step.Ack true ∷ []

-- the needuid is delivered again after the handshake: it is accepted again, and that is cleaned up
abbrev pub needuid_repeated : List Line
needuid_repeated = handshake ++ (
    to_receiver (NeedUid 7) 11 emits Accept 7 11 ∷
    to_sender (Accept 7 11) emits Cleanup 11 ∷
    to_receiver (Cleanup 11) 0 ∷
    get reply.Nothing ∷
    []
    )

abbrev pub needuid_repeated_run : List Step
needuid_repeated_run = step.Put [] ∷ step.Get [] ∷ step.Ack true ∷ []

-- words that come again and are not used up: of a start while the sender asks, of a needuid that was accepted, and of the other side
abbrev pub words_said_again : List Line
words_said_again =
    put letter_a ∷
    start 7 emits NeedUid 7 ∷
    start 7 ∷
    to_receiver (NeedUid 7) 7 emits Accept 7 7 ∷
    to_receiver (NeedUid 7) 7 emits Accept 7 7 ∷
    []

abbrev pub words_said_again_run : List Step
words_said_again_run = step.Put letter_a ∷ []

-- the receiver crashes after its accept: the message is lost, and the status is No
abbrev pub receiver_crash_before_send : List Line
receiver_crash_before_send =
    put letter_a ∷
    start 7 emits NeedUid 7 ∷
    to_receiver (NeedUid 7) 9 emits Accept 7 9 ∷
    crash Receiver ∷
    recover Receiver ∷
    to_sender (Accept 7 9) emits Send 9 letter_a ∷
    ack reply.NotYet ∷
    to_receiver (Send 9 letter_a) 0 emits Ack 9 false ∷
    to_sender (Ack 9 false) ∷
    ack reply.No ∷
    []

abbrev pub receiver_crash_before_send_run : List Step
receiver_crash_before_send_run = step.Put letter_a ∷ step.Crash Receiver ∷ step.Lose 0 ∷ step.Recover Receiver ∷ step.Ack false ∷ []

-- the sender crashes after its send, and puts again: both messages are got, in order
abbrev pub sender_crash_after_send : List Line
sender_crash_after_send =
    put letter_a ∷
    start 7 emits NeedUid 7 ∷
    to_receiver (NeedUid 7) 9 emits Accept 7 9 ∷
    to_sender (Accept 7 9) emits Send 9 letter_a ∷
    crash Sender ∷
    recover Sender ∷
    put letter_b ∷
    to_receiver (Send 9 letter_a) 0 ∷
    to_sender (Accept 7 9) emits Cleanup 9 ∷
    to_receiver (Cleanup 9) 0 ∷
    get (reply.Got letter_a) ∷
    resend Receiver emits Ack 9 true ∷
    to_sender (Ack 9 true) emits Cleanup 9 ∷
    to_receiver (Cleanup 9) 0 ∷
    start 8 emits NeedUid 8 ∷
    to_receiver (NeedUid 8) 10 emits Accept 8 10 ∷
    to_sender (Accept 8 10) emits Send 10 letter_b ∷
    to_receiver (Send 10 letter_b) 0 ∷
    get (reply.Got letter_b) ∷
    resend Receiver emits Ack 10 true ∷
    to_sender (Ack 10 true) emits Cleanup 10 ∷
    to_receiver (Cleanup 10) 0 ∷
    ack reply.Yes ∷
    []

abbrev pub sender_crash_after_send_run : List Step
sender_crash_after_send_run = step.Put letter_a ∷ step.Crash Sender ∷ step.Recover Sender ∷ step.Put letter_b ∷ step.Get letter_a ∷ step.Get letter_b ∷ step.Ack true ∷ []

-- the receiver crashes after the get and before its ack: the message was got, and the status is No
abbrev pub receiver_crash_after_get : List Line
receiver_crash_after_get =
    put letter_a ∷
    start 7 emits NeedUid 7 ∷
    to_receiver (NeedUid 7) 9 emits Accept 7 9 ∷
    to_sender (Accept 7 9) emits Send 9 letter_a ∷
    to_receiver (Send 9 letter_a) 0 ∷
    get (reply.Got letter_a) ∷
    crash Receiver ∷
    recover Receiver ∷
    resend Sender emits Send 9 letter_a ∷
    to_receiver (Send 9 letter_a) 0 emits Ack 9 false ∷
    to_sender (Ack 9 false) ∷
    ack reply.No ∷
    []

abbrev pub receiver_crash_after_get_run : List Step
receiver_crash_after_get_run =
    step.Put letter_a ∷ step.Get letter_a ∷ step.Crash Receiver ∷ step.LoseAck ∷ step.Recover Receiver ∷ step.Ack false ∷ []

-- calls to a sender that is down: the reply is Down
abbrev pub calls_while_down : List Line
calls_while_down =
    crash Sender ∷
    put_while_down letter_a ∷
    ack reply.Down ∷
    get reply.Nothing ∷
    recover Sender ∷
    ack reply.No ∷
    []

abbrev pub calls_while_down_run : List Step
calls_while_down_run =
    step.Crash Sender ∷ step.DownReply Sender ∷ step.DownReply Sender ∷ step.LoseAck ∷ step.Recover Sender ∷ step.Ack false ∷ []

-- a get from a receiver that is down is a call, too
abbrev pub get_while_down : List Line
get_while_down = crash Receiver ∷ get reply.Down ∷ recover Receiver ∷ []

abbrev pub get_while_down_run : List Step
get_while_down_run = step.Crash Receiver ∷ step.DownReply Receiver ∷ step.Recover Receiver ∷ []

-- the receiver holds a message through a crash of the sender, which loses what waits; then the receiver crashes too
abbrev pub message_held_through_a_crash : List Line
message_held_through_a_crash =
    put letter_a ∷
    put letter_b ∷
    start 7 emits NeedUid 7 ∷
    to_receiver (NeedUid 7) 9 emits Accept 7 9 ∷
    to_sender (Accept 7 9) emits Send 9 letter_a ∷
    to_receiver (Send 9 letter_a) 0 ∷
    crash Sender ∷
    recover Sender ∷
    put hi ∷
    start 8 emits NeedUid 8 ∷
    get (reply.Got letter_a) ∷
    crash Receiver ∷
    recover Receiver ∷
    []

abbrev pub message_held_through_a_crash_run : List Step
message_held_through_a_crash_run =
    step.Put letter_a ∷ step.Put letter_b ∷ step.Crash Sender ∷ step.Lose 1 ∷ step.Recover Sender ∷ step.Put hi ∷ step.Get letter_a ∷ step.Crash Receiver ∷ step.Recover Receiver ∷ []

-- both sides are down at once, while a message waits
abbrev pub both_sides_down : List Line
both_sides_down =
    put letter_a ∷
    put letter_b ∷
    start 7 emits NeedUid 7 ∷
    to_receiver (NeedUid 7) 9 emits Accept 7 9 ∷
    to_sender (Accept 7 9) emits Send 9 letter_a ∷
    to_receiver (Send 9 letter_a) 0 ∷
    get (reply.Got letter_a) ∷
    crash Receiver ∷
    crash Sender ∷
    recover Sender ∷
    recover Receiver ∷
    []

abbrev pub both_sides_down_run : List Step
both_sides_down_run = step.Put letter_a ∷ step.Put letter_b ∷ step.Get letter_a ∷ step.Crash Receiver ∷ step.Crash Sender ∷ step.Lose 0 ∷ step.Recover Sender ∷ step.Recover Receiver ∷ []

-- after a crash the sender asks under the word of its first needuid again
abbrev pub start_word_repeated : List Line
start_word_repeated =
    put letter_a ∷
    start 7 emits NeedUid 7 ∷
    crash Sender ∷
    recover Sender ∷
    put letter_b ∷
    start 7 emits NeedUid 7 ∷
    []

-- after a handshake a needuid comes to the receiver with the word of its last accept
abbrev pub accept_word_repeated : List Line
accept_word_repeated = handshake ++ (
    put [] ∷
    start 8 emits NeedUid 8 ∷
    to_receiver (NeedUid 8) 9 emits Accept 8 9 ∷
    []
    )

-- a packet that nobody emitted comes to a side
abbrev pub unsent_delivery : End → ℕ → OwnedPacket → ℕ → List Line
unsent_delivery side stream packet word = line_of side stream (act.Deliver packet word) reply.Done ∷ []

-- the needuid is delivered to the sender that emitted it
abbrev pub returned_packet : List Line
returned_packet = first_needuid ++ to_sender (NeedUid 7) ∷ []

-- the needuid is delivered to the receiver of another stream
abbrev pub stray_packet : List Line
stray_packet = first_needuid ++ line_of Receiver 2 (act.Deliver (of_stream_1 (NeedUid 7)) 9) reply.Done ∷ []

-- a message comes and is got
abbrev pub first_get : List Line
first_get =
    put letter_a ∷
    start 7 emits NeedUid 7 ∷
    to_receiver (NeedUid 7) 9 emits Accept 7 9 ∷
    to_sender (Accept 7 9) emits Send 9 letter_a ∷
    to_receiver (Send 9 letter_a) 0 ∷
    get (reply.Got letter_a) ∷
    []

-- then a second get finds nothing
abbrev pub good_journal : List Line
good_journal = first_get ++ get reply.Nothing ∷ []

abbrev pub good_journal_run : List Step
good_journal_run = step.Put letter_a ∷ step.Get letter_a ∷ []

-- or it is said to have got the message once more
abbrev pub forged_journal : List Line
forged_journal = first_get ++ get (reply.Got letter_a) ∷ []

-- a send is delivered that was never emitted, under an identifier that was never asked for
abbrev pub message_invented : List Line
message_invented =
    to_receiver (NeedUid 7) 9 emits Accept 7 9 ∷
    to_receiver (Send 9 letter_a) 0 ∷
    get (reply.Got letter_a) ∷
    []

-- the receiver accepts under an identifier that it used before its crash, and gets the old message a second time
abbrev pub message_got_twice : List Line
message_got_twice = first_get ++ (
    crash Receiver ∷
    recover Receiver ∷
    to_receiver (NeedUid 7) 9 emits Accept 7 9 ∷
    to_receiver (Send 9 letter_a) 0 ∷
    get (reply.Got letter_a) ∷
    []
    )

-- the sender asks under a word of before its crash, and takes the ack of its old message for one of the new, which is not got
abbrev pub old_message_acknowledged : List Line
old_message_acknowledged = first_get ++ (
    crash Sender ∷
    recover Sender ∷
    put letter_b ∷
    start 7 emits NeedUid 7 ∷
    to_sender (Accept 7 9) emits Send 9 letter_b ∷
    resend Receiver emits Ack 9 true ∷
    to_sender (Ack 9 true) emits Cleanup 9 ∷
    ack reply.Yes ∷
    []
    )

-- the history of a story
abbrev pub history_of : List Line → List Event
history_of story = reverse (map (λ l. l.event) story)

-- the packets of a story
abbrev pub packets_of : List Line → List Emission
packets_of story = filter_map (λ l. l.emission) story

-- each line, the newest first, emits what it says
abbrev pub EmitEach : List Line → Type 0
EmitEach [] = Unit {0}
EmitEach (l ∷ past) = (event_emission (map (λ p. p.event) past) l.event ≡ l.emission) × EmitEach past

-- over the whole story the replies are right, each line emits what it says, and each packet delivered was emitted before
pub record IsExample (story : List Line) : Type 0 where
  pub right : IsRight (history_of story)
  pub each : EmitEach (reverse story)
  pub emitted : emissions (history_of story) ≡ packets_of story
  pub honest : IsHonest (history_of story)

-- besides, no word is used twice, and this run of the queue serves the stream
pub record IsServedExample (story : List Line) (run : List Step) : Type 0 where
  pub example : IsExample story
  pub fresh : IsFresh (history_of story)
  pub allowed : IsRun run
  pub served : without_losses run ≡ calls 1 (history_of story)

-- besides, the last line, and no other, uses a word again
pub record IsRepeatExample (story : List Line) : Type 0 where
  pub example : IsExample story
  pub fresh_before : IsFresh (drop 1 (history_of story))
  pub not_fresh : ¬ (IsFresh (history_of story))
