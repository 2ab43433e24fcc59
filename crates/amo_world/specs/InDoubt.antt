-- The worked stories as queues in doubt: what stream 1 is after each line.
use Rattle.std.specs.Prelude.{true, false, List, [], ◌∷◌, ◌++◌}
use Rattle.amo_object.specs.declared.step.End.TheVariants.{Sender, Receiver}
use Rattle.amo_object.specs.declared.status.Status.{Status}
use Rattle.amo_object.specs.declared.status.Status.TheVariants.{Yes, No, Open}
use Rattle.amo_world.specs.declared.event.Event.{Event}
use Rattle.amo_world.specs.History.{stream_after}
use Rattle.amo_world.specs.Doubt.{Entry, DoubtState, entry, set_down}
use Rattle.amo_world.specs.View.{view}
use Rattle.amo_world.specs.Example.{Line, history_of, letter_a, letter_b, hi}

-- stream 1 after each event of a history, in the order of time
abbrev pub views : List Event → List DoubtState
views [] = []
views (e ∷ past) = views past ++ view (stream_after 1 (e ∷ past)) ∷ []

abbrev pub doubts_of : List Line → List DoubtState
doubts_of story = views (history_of story)

-- both sides are up, and the status is in no doubt
abbrev pub up : List Entry → Status → DoubtState
up es status = record { entries = es; status = status; status_doubted = false; sender_down = false; receiver_down = false }

-- the status is in doubt
abbrev pub status_in_doubt : DoubtState → DoubtState
status_in_doubt s = record s { status_doubted = true }

-- a side is down
abbrev pub while_sender_down : DoubtState → DoubtState
while_sender_down s = set_down s Sender true

abbrev pub while_receiver_down : DoubtState → DoubtState
while_receiver_down s = set_down s Receiver true

-- the messages `a` and `b`, in doubt or not
abbrev pub a : Entry
a = entry false letter_a

abbrev pub a_in_doubt : Entry
a_in_doubt = entry true letter_a

abbrev pub b : Entry
b = entry false letter_b

-- a whole handshake, for the message of no bytes: it is got at the sixth line
abbrev pub handshake_doubts : List DoubtState
handshake_doubts =
    up (entry false [] ∷ []) Open ∷
    up (entry false [] ∷ []) Open ∷
    up (entry false [] ∷ []) Open ∷
    up (entry false [] ∷ []) Open ∷
    up (entry false [] ∷ []) Open ∷
    up [] Yes ∷
    up [] Yes ∷
    up [] Yes ∷
    up [] Yes ∷
    up [] Yes ∷
    []

-- a packet that comes again changes nothing
abbrev pub send_repeated_doubts : List DoubtState
send_repeated_doubts =
    up (entry false hi ∷ []) Open ∷
    up (entry false hi ∷ []) Open ∷
    up (entry false hi ∷ []) Open ∷
    up (entry false hi ∷ []) Open ∷
    up (entry false hi ∷ []) Open ∷
    up (entry false hi ∷ []) Open ∷
    up [] Yes ∷
    up [] Yes ∷
    up [] Yes ∷
    up [] Yes ∷
    up [] Yes ∷
    up [] Yes ∷
    up [] Yes ∷
    up [] Yes ∷
    []

-- the receiver crashes after its accept: the message is in doubt from then on, and leaves when the ack of the loss is delivered
abbrev pub receiver_crash_before_send_doubts : List DoubtState
receiver_crash_before_send_doubts =
    up (a ∷ []) Open ∷
    up (a ∷ []) Open ∷
    up (a ∷ []) Open ∷
    while_receiver_down (up (a_in_doubt ∷ []) Open) ∷
    up (a_in_doubt ∷ []) Open ∷
    up (a_in_doubt ∷ []) Open ∷
    up (a_in_doubt ∷ []) Open ∷
    up (a_in_doubt ∷ []) Open ∷
    up [] No ∷
    up [] No ∷
    []

-- the sender crashes after its send: its message is in doubt until it arrives, and stands before the one that is put later
abbrev pub sender_crash_after_send_doubts : List DoubtState
sender_crash_after_send_doubts =
    up (a ∷ []) Open ∷
    up (a ∷ []) Open ∷
    up (a ∷ []) Open ∷
    up (a ∷ []) Open ∷
    while_sender_down (up (a_in_doubt ∷ []) No) ∷
    up (a_in_doubt ∷ []) No ∷
    up (a_in_doubt ∷ b ∷ []) Open ∷
    up (a ∷ b ∷ []) Open ∷
    up (a ∷ b ∷ []) Open ∷
    up (a ∷ b ∷ []) Open ∷
    up (b ∷ []) Open ∷
    up (b ∷ []) Open ∷
    up (b ∷ []) Open ∷
    up (b ∷ []) Open ∷
    up (b ∷ []) Open ∷
    up (b ∷ []) Open ∷
    up (b ∷ []) Open ∷
    up (b ∷ []) Open ∷
    up [] Yes ∷
    up [] Yes ∷
    up [] Yes ∷
    up [] Yes ∷
    up [] Yes ∷
    []

-- the receiver crashes after the get: what is known of the message is in doubt from then on
abbrev pub receiver_crash_after_get_doubts : List DoubtState
receiver_crash_after_get_doubts =
    up (a ∷ []) Open ∷
    up (a ∷ []) Open ∷
    up (a ∷ []) Open ∷
    up (a ∷ []) Open ∷
    up (a ∷ []) Open ∷
    up [] Yes ∷
    while_receiver_down (status_in_doubt (up [] Yes)) ∷
    status_in_doubt (up [] Yes) ∷
    status_in_doubt (up [] Yes) ∷
    status_in_doubt (up [] Yes) ∷
    up [] No ∷
    up [] No ∷
    []

-- a sender that is down says No afterwards
abbrev pub calls_while_down_doubts : List DoubtState
calls_while_down_doubts =
    while_sender_down (up [] No) ∷
    while_sender_down (up [] No) ∷
    while_sender_down (up [] No) ∷
    while_sender_down (up [] No) ∷
    up [] No ∷
    up [] No ∷
    []

-- nor is anything in doubt for a get from a receiver that is down
abbrev pub get_while_down_doubts : List DoubtState
get_while_down_doubts = while_receiver_down (up [] Yes) ∷ while_receiver_down (up [] Yes) ∷ up [] Yes ∷ []

-- a message that the receiver holds is in no doubt, whoever crashes; nor is one that was not sent, where nothing was accepted for its
-- needuid
abbrev pub message_held_through_a_crash_doubts : List DoubtState
message_held_through_a_crash_doubts =
    up (a ∷ []) Open ∷
    up (a ∷ b ∷ []) Open ∷
    up (a ∷ b ∷ []) Open ∷
    up (a ∷ b ∷ []) Open ∷
    up (a ∷ b ∷ []) Open ∷
    up (a ∷ b ∷ []) Open ∷
    while_sender_down (up (a ∷ []) No) ∷
    up (a ∷ []) No ∷
    up (a ∷ entry false hi ∷ []) Open ∷
    up (a ∷ entry false hi ∷ []) Open ∷
    up (entry false hi ∷ []) Open ∷
    while_receiver_down (up (entry false hi ∷ []) Open) ∷
    up (entry false hi ∷ []) Open ∷
    []

-- a crash of the receiver puts nothing in doubt that waits, nor the status while something waits
abbrev pub both_sides_down_doubts : List DoubtState
both_sides_down_doubts =
    up (a ∷ []) Open ∷
    up (a ∷ b ∷ []) Open ∷
    up (a ∷ b ∷ []) Open ∷
    up (a ∷ b ∷ []) Open ∷
    up (a ∷ b ∷ []) Open ∷
    up (a ∷ b ∷ []) Open ∷
    up (b ∷ []) Open ∷
    while_receiver_down (up (b ∷ []) Open) ∷
    while_receiver_down (while_sender_down (up [] No)) ∷
    while_receiver_down (up [] No) ∷
    up [] No ∷
    []
